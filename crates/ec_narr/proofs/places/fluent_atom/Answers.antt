use Rattle.std.proofs.Common.{◌≡◌, [], ◌∷◌, ℤ, Some, true, pos, refl, sym, ap, subst, unwrap_or}
use Rattle.ec_logic.specs.Atom.{number_of}
use Rattle.ec_logic.specs.Signature.{Signature}
use Rattle.ec_logic.specs.Universe.{universe_of, row_of}
use Rattle.ec_atom.specs.Ground.{are_within}
use Rattle.ec_narr.proofs.TimeLemmas.{fluent_within}
use Rattle.ec_narr.proofs.places.fluent_atom.Goals as goal

pub index_of-requires-clause-within : goal.index_of-requires-clause-within
index_of-requires-clause-within c =
    let P : Signature → Type 0 = λ s. are_within (universe_of s) (row_of (universe_of s).predicates c.args.predicate) (c.place_value.result ∷ c.args.time ∷ []) ≡ true in
    subst P (sym c.requires.same) (fluent_within c.args.signature.now c.requires.valid c.args.predicate c.args.fluent c.args.time.0 c.place_value.result c.args.time c.requires.predicate c.requires.fluent c.requires.time c.place_value.ensures refl)

pub returns : goal.returns
returns c =
    let first : ℤ → Type 0 = λ v. number_of (universe_of c.args.atoms.now) c.args.predicate (v ∷ c.args.time.0 ∷ []) ≡ Some c.index_of.result in
    let here : Signature → Type 0 = λ s. number_of (universe_of s) c.args.predicate (pos c.args.fluent ∷ c.args.time.0 ∷ []) ≡ Some c.index_of.result in
    sym (ap (λ o. unwrap_or o 0) (subst here c.requires.same (subst first c.place_value.ensures c.index_of.ensures.number)))
