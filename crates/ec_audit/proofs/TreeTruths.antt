-- A truth of the visible atoms is that of a minimal model exactly where some truth of all atoms goes on from it and makes the theory's trees true.
use Rattle.std.proofs.Common.{◌≡◌, ℕ, zero, suc, ◌<◌, Bool, false, List, [], ◌∷◌, length, map, get_or, All, Option, Some, None, slice_get, refl, ap, sym, ◌∙◌, arith}
use Rattle.std.proofs.lemmas.Option.{slice_get-get_or, slice_get_within}
use Rattle.ec_logic.specs.Universe.{Universe, universe_of}
use Rattle.ec_logic.specs.Truth.{Structure}
use Rattle.ec_logic.specs.Atom.{GroundAtom, visible_atoms, all_atoms, number_of, visible_truth}
use Rattle.ec_logic.specs.Theory.{Theory}
use Rattle.ec_logic.specs.Listing.{IsTruth}
use Rattle.ec_logic.specs.Minimal.{IsMinimalModel}
use Rattle.ec_logic.specs.ValidTheory.{IsValidTheory}
use Rattle.ec_logic.proofs.Minimality.{minimal_iff_completed}
use Rattle.ec_prop.specs.Prop.{truth_of}
use Rattle.ec_grounding.specs.Folded.{numbered}
use Rattle.ec_grounding.specs.Grounded.{leaf_of, is_effect, reading_of, IsGroundModel}
use Rattle.ec_grounding.specs.Models.{HasTruths, SupportsTuples, structure_read}
use Rattle.ec_grounding.specs.WellFormed.{AreNumbered, visible_count}
use Rattle.ec_grounding.proofs.GroundModels.{gives_models}
use Rattle.ec_grounding.proofs.ReadStructures.{reads_models, read_truths}
use Rattle.ec_grounding.proofs.Readings.{reading-other}
use Rattle.ec_cnf.proofs.AtomsRead.{numbered_is, each_numbered, all_known, effect_atoms, parts, visible_others, in_front, all_at}

-- the truth of an atom in a structure, if there is one
abbrev truth_there : Structure → Option GroundAtom → Bool
truth_there m None = false
truth_there m (Some atom) = m atom.predicate atom.args

-- truths that are the same place by place
mapped_is : {A : Type 0} (f : A → Bool) (xs : List A) (truth : List Bool) → length truth ≡ length xs → ((k : ℕ) (x : A) → slice_get xs k ≡ Some x → f x ≡ get_or truth k false) → map f xs ≡ truth
mapped_is f [] [] size h = refl
mapped_is f [] (b ∷ bs) size h = absurd (omega (arith, size))
mapped_is f (x ∷ xs) [] size h = absurd (omega (arith, size))
mapped_is f (x ∷ xs) (b ∷ bs) size h =
    let first : f x ≡ b = h 0 x refl in
    let rest = mapped_is f xs bs (omega (arith, size)) (λ k y e. h (suc k) y e) in
    rw (first, rest) refl

mapped_at : {A : Type 0} (f : A → Bool) (xs : List A) (k : ℕ) (x : A) → slice_get xs k ≡ Some x → get_or (map f xs) k false ≡ f x
mapped_at f [] k x e = absurd cc
mapped_at f (y ∷ ys) zero x e = let same : y ≡ x = cc in ap f same
mapped_at f (y ∷ ys) (suc k) x e = mapped_at f ys k x e

module _ (theory : Theory) (valid : IsValidTheory theory) (places : AreNumbered (universe_of theory.signature)) where
  abbrev universe : Universe
  universe = universe_of theory.signature

  listed : (k : ℕ) (atom : GroundAtom) → slice_get (visible_atoms universe) k ≡ Some atom → slice_get (all_atoms universe) k ≡ Some atom
  listed k atom e = ap (λ xs. slice_get xs k) (parts theory) ∙ in_front (visible_atoms universe) (effect_atoms theory) k atom e

  -- ---- from a truth of the atoms to a structure

  module _ (v : ℕ → Bool) (truth : List Bool) (size : length truth ≡ visible_count theory) (same : (a : ℕ) → a < visible_count theory → v a ≡ truth_of truth a) where
    visible_read : visible_truth universe (structure_read theory v) ≡ truth
    visible_read = mapped_is (λ (atom : GroundAtom). structure_read theory v atom.predicate atom.args) (visible_atoms universe) truth size here
      where
        here : (k : ℕ) (atom : GroundAtom) → slice_get (visible_atoms universe) k ≡ Some atom → structure_read theory v atom.predicate atom.args ≡ get_or truth k false
        here k atom e =
            let number = places k atom (listed k atom e) in
            let other = all_at (λ (x : GroundAtom). is_effect x.predicate ≡ false) (visible_atoms universe) (visible_others theory) k atom e in
            let read : reading_of theory atom.predicate atom.args ≡ numbered k = reading-other theory atom.predicate atom.args other ∙ ap leaf_of number in
            let known = all_at (λ (x : GroundAtom). x.predicate < length theory.signature.predicates) (all_atoms universe) (all_known theory valid) k atom (listed k atom e) in
            sym (read_truths theory valid v atom.predicate k atom.args known read) ∙ same k (slice_get_within (visible_atoms universe) k atom e)

    pub truth_from : All (SupportsTuples universe) theory.groups → IsGroundModel theory v → IsTruth theory truth
    truth_from tuples model =
        let law = reads_models theory valid tuples v in
        (structure_read theory v, (minimal_iff_completed theory (structure_read theory v) valid).1 (law.1 model), visible_read)

  -- ---- from a structure to a truth of the atoms

  module _ (m : Structure) where
    -- the truths of the atoms in a structure, by their numbers
    abbrev pub numbers_in : ℕ → Bool
    numbers_in k = truth_there m (slice_get (all_atoms universe) k)

    abbrev Right : GroundAtom → Type 0
    Right atom = (k : ℕ) → number_of universe atom.predicate atom.args ≡ Some k → numbers_in k ≡ m atom.predicate atom.args

    right_here : (i : ℕ) (atom : GroundAtom) → slice_get (all_atoms universe) i ≡ Some atom → Right atom
    right_here i atom e j g =
        let number = places i atom e in
        let same : i ≡ j = cc in
        ap numbers_in (sym same) ∙ ap (truth_there m) e

    numbers_truths : HasTruths theory m numbers_in
    numbers_truths p k vs known e =
        let number = numbered_is theory p k vs e in
        each_numbered theory Right (λ i d l. right_here i (get_or (all_atoms universe) i d) (slice_get-get_or (all_atoms universe) i d l)) p k vs known number k number

    pub ground_from : All (SupportsTuples universe) theory.groups → IsMinimalModel theory m → IsGroundModel theory numbers_in
    ground_from tuples minimal =
        let completed = (minimal_iff_completed theory m valid).0 minimal in
        ((gives_models theory valid tuples m numbers_in completed.structure numbers_truths).0 completed).1

    pub visible_in : (truth : List Bool) → visible_truth universe m ≡ truth → (a : ℕ) → a < visible_count theory → numbers_in a ≡ truth_of truth a
    visible_in truth is a low =
        let there : slice_get (visible_atoms universe) a ≡ Some (get_or (visible_atoms universe) a none) = slice_get-get_or (visible_atoms universe) a none low in
        let atom = get_or (visible_atoms universe) a none in
        ap (truth_there m) (listed a atom there) ∙ (sym (mapped_at (λ (x : GroundAtom). m x.predicate x.args) (visible_atoms universe) a atom there) ∙ ap (λ (bs : List Bool). get_or bs a false) is)
      where
        none : GroundAtom
        none = record { predicate = 0; args = [] }
