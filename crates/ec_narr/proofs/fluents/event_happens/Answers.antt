use Rattle.std.proofs.Common.{◌≡◌, [], ◌∷◌, ℤ, true, pos, refl, sym, subst}
use Rattle.ec_logic.specs.Atom.{structure_of}
use Rattle.ec_logic.specs.Signature.{Signature}
use Rattle.ec_logic.specs.Universe.{universe_of, row_of}
use Rattle.ec_atom.specs.Ground.{are_within}
use Rattle.ec_narr.proofs.TimeLemmas.{event_within}
use Rattle.ec_narr.proofs.fluents.event_happens.Goals as goal

pub is_true-requires-clause-within : goal.is_true-requires-clause-within
is_true-requires-clause-within c =
    let P : Signature → Type 0 = λ s. are_within (universe_of s) (row_of (universe_of s).predicates 2) (c.place_value.result ∷ c.args.time ∷ []) ≡ true in
    subst P (sym c.requires.same) (event_within c.args.signature.now c.requires.valid c.args.event c.args.time.0 c.place_value.result c.args.time c.requires.event c.requires.time c.place_value.ensures refl)

pub returns : goal.returns
returns c =
    let first : ℤ → Type 0 = λ v. c.is_true.result ≡ structure_of (universe_of c.args.atoms.now) c.args.truth.now 2 (v ∷ c.args.time.0 ∷ []) in
    let here : Signature → Type 0 = λ s. c.is_true.result ≡ structure_of (universe_of s) c.args.truth.now 2 (pos c.args.event ∷ c.args.time.0 ∷ []) in
    subst here c.requires.same (subst first c.place_value.ensures c.is_true.ensures)
