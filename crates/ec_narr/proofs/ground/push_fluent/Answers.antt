use Rattle.std.proofs.Common.{◌≡◌, ◌<◌, ◌++◌, ℕ, List, true, length, ap, sym, subst, ◌∙◌}
use Rattle.std.specs.Prelude.{OnOk}
use Rattle.ec_logic.specs.Extent.{size_of}
use Rattle.ec_logic.specs.Narrative.{applied, simple_text, texts_of}
use Rattle.ec_logic.specs.Signature.{Signature, fluent_sort}
use Rattle.ec_logic.specs.Universe.{universe_of, extent_at, row_of}
use Rattle.ec_theory.specs.Values.{numbers_of}
use Rattle.ec_theory.specs.declared.value.Value.{Value}
use Rattle.ec_atom.specs.Blocks.{application, application_at}
use Rattle.ec_atom.specs.Ground.{are_within}
use Rattle.ec_narr.proofs.GroundLemmas.{sorts_known, as_many, ground_is, row_is}
use Rattle.ec_narr.proofs.ground.push_fluent.Goals as goal

pub fluent_at-requires : goal.fluent_at-requires
fluent_at-requires c =
    let P : Signature → Type 0 = λ s. c.args.fluent < size_of (extent_at (universe_of s) fluent_sort) in
    subst P (sym c.requires.same) c.requires.within

pub push_applied-requires-clause-known : goal.push_applied-requires-clause-known
push_applied-requires-clause-known c = sorts_known c.args.signature.now c.args.signature.now.fluents c.in_ok-term.term.symbol c.fluent_sorts-sorts.result.now c.requires.valid.known_sorts.fluents c.fluent_sorts-sorts.ensures.sorts

pub push_applied-requires-clause-count : goal.push_applied-requires-clause-count
push_applied-requires-clause-count c =
    let P : Signature → Type 0 = λ s. are_within (universe_of s) (row_of (universe_of s).fluents c.in_ok-term.term.symbol) c.in_ok-term.term.args.items ≡ true in
    let within = subst P c.requires.same c.in_ok-term.ensures.within in
    let row = row_is c.args.signature.now.fluents c.in_ok-term.term.symbol c.fluent_sorts-sorts.result.now c.fluent_sorts-sorts.ensures.sorts in
    as_many (universe_of c.args.signature.now) c.fluent_sorts-sorts.result.now c.in_ok-term.term.args.items (ap (λ ss. are_within (universe_of c.args.signature.now) ss c.in_ok-term.term.args.items) (sym row) ∙ within) ∙ ap (λ (vs : List Value). length vs) (sym c.deref.ensures.value)

pub returns : goal.returns
returns c =
    let P : Signature → Type 0 = λ s. application c.in_ok-term.term ≡ application_at (universe_of s) (universe_of s).fluents c.args.fluent in
    let is = subst P c.requires.same c.in_ok-term.ensures.term in
    let text : List Value → List ℕ = λ vs. applied c.fluent_name-name.result.now (texts_of (simple_text c.args.signature.now) c.fluent_sorts-sorts.result.now (numbers_of vs)) in
    let same = ap text c.deref.ensures.value ∙ ground_is c.args.signature.now c.args.signature.now.fluents c.args.fluent c.in_ok-term.term c.fluent_name-name.result.now c.fluent_sorts-sorts.result.now is c.fluent_name-name.ensures c.fluent_sorts-sorts.ensures.sorts in
    let Q : List ℕ → Type 0 = λ t. OnOk c.push_applied.result (c.push_applied.new.out.items ≡ c.args.out.now.items ++ t) in
    subst Q same c.push_applied.ensures
