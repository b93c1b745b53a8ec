use Rattle.std.proofs.Common.{◌≡◌, ◌<◌, ◌++◌, ◌∙◌, ℕ, List, Some, true, length, slice_get, ap, sym, subst, codes}
use Rattle.ec_logic.specs.Atom.{GroundAtom, all_atoms}
use Rattle.ec_logic.specs.Narrative.{atom_text}
use Rattle.ec_logic.specs.Signature.{Signature}
use Rattle.ec_logic.specs.Universe.{universe_of, row_of}
use Rattle.ec_atom.specs.Ground.{are_within, ground_atom}
use Rattle.ec_narr.proofs.PredicateLemmas.{below_all, same_atom}
use Rattle.ec_narr.proofs.places.declared_text.Goals as goal

pub atom_at-requires : goal.atom_at-requires
atom_at-requires c =
    let P : Signature → Type 0 = λ s. c.args.index < length (all_atoms (universe_of s)) in
    subst P (sym c.requires.same) (below_all (universe_of c.args.signature.now) c.args.index c.requires.within)

pub push_atom-requires-clause-within : goal.push_atom-requires-clause-within
push_atom-requires-clause-within c =
    let P : Signature → Type 0 = λ s. are_within (universe_of s) (row_of (universe_of s).predicates c.in_ok-atom.atom.predicate) c.in_ok-atom.atom.args.items ≡ true in
    subst P c.requires.same c.in_ok-atom.ensures.within

pub returns : goal.returns
returns c = λ atom at.
    (let P : Signature → Type 0 = λ s. slice_get (all_atoms (universe_of s)) c.args.index ≡ Some (ground_atom c.in_ok-atom.atom) in
    let same = same_atom (universe_of c.args.signature.now) c.args.index (ground_atom c.in_ok-atom.atom) atom c.requires.within (subst P c.requires.same c.in_ok-atom.ensures.atom) at in
    let end : List ℕ → List ℕ = λ x. x ++ codes "." in
    let behind : List ℕ → List ℕ = λ x. x ++ atom_text c.args.signature.now (ground_atom c.in_ok-atom.atom) ++ codes "." in
    let text : GroundAtom → List ℕ = λ a. atom_text c.args.signature.now a ++ codes "." in
    c.in_ok-push.ensures.items ∙ (ap end c.in_ok-push_atom.ensures ∙ (ap behind c.new-text.ensures.items ∙ ap text same)))
