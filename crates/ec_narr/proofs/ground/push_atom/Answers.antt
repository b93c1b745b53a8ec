use Rattle.std.proofs.Common.{◌≡◌, ◌++◌, ◌∙◌, ℕ, List, ap, sym, subst}
use Rattle.std.specs.Prelude.{OnOk}
use Rattle.ec_logic.specs.Narrative.{applied, texts_of, value_text}
use Rattle.ec_logic.specs.Universe.{universe_of}
use Rattle.ec_theory.specs.Values.{numbers_of}
use Rattle.ec_theory.specs.declared.value.Value.{Value}
use Rattle.ec_atom.specs.Ground.{are_within}
use Rattle.ec_narr.proofs.GroundLemmas.{sorts_known, row_is, atom_is}
use Rattle.ec_narr.proofs.ground.push_atom.Goals as goal

pub push_named-requires-clause-known : goal.push_named-requires-clause-known
push_named-requires-clause-known c = sorts_known c.args.signature.now c.args.signature.now.predicates c.args.atom.now.predicate c.predicate_sorts-sorts.result.now c.requires.valid.known_sorts.predicates c.predicate_sorts-sorts.ensures.sorts

pub push_named-requires-clause-within : goal.push_named-requires-clause-within
push_named-requires-clause-within c =
    let row = row_is c.args.signature.now.predicates c.args.atom.now.predicate c.predicate_sorts-sorts.result.now c.predicate_sorts-sorts.ensures.sorts in
    rw c.deref.ensures.value (ap (λ ss. are_within (universe_of c.args.signature.now) ss c.args.atom.now.args.items) (sym row) ∙ c.requires.within)

pub returns : goal.returns
returns c =
    let text : List Value → List ℕ = λ vs. applied c.predicate_name-name.result.now (texts_of (value_text c.args.signature.now) c.predicate_sorts-sorts.result.now (numbers_of vs)) in
    let same = ap text c.deref.ensures.value ∙ atom_is c.args.signature.now c.args.atom.now.predicate (numbers_of c.args.atom.now.args.items) c.predicate_name-name.result.now c.predicate_sorts-sorts.result.now c.predicate_name-name.ensures c.predicate_sorts-sorts.ensures.sorts in
    let Q : List ℕ → Type 0 = λ t. OnOk c.push_named.result (c.push_named.new.out.items ≡ c.args.out.now.items ++ t) in
    subst Q same c.push_named.ensures
