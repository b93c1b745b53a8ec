-- A filled structure is a minimal model exactly where its visible truth is one of the theory.
use Rattle.std.proofs.Common.{◌≡◌, ℕ, ◌≤◌, Bool, false, List, [], ◌∷◌, ◌++◌, take, length, ℤ, All, refl, sym, subst, ◌∙◌}
use Rattle.std.proofs.Math.Path.{fun_ext}
use Rattle.ec_logic.specs.Universe.{Universe, universe_of}
use Rattle.ec_logic.specs.Truth.{Structure}
use Rattle.ec_logic.specs.Atom.{visible_atoms, all_atoms, structure_of}
use Rattle.ec_logic.specs.Theory.{Group, Theory, is_in_group}
use Rattle.ec_logic.specs.Minimal.{AreMinimalIn, IsMinimalModel}
use Rattle.ec_logic.specs.Completed.{filled}
use Rattle.ec_logic.specs.Listing.{IsTruth}
use Rattle.ec_logic.specs.ValidTheory.{IsValidTheory, IsValidGroup, BeginsWithEffects}
use Rattle.ec_logic.proofs.Tests.{test_cases}
use Rattle.ec_logic.proofs.Numbers.{is_one_of}
use Rattle.ec_logic.proofs.Completing.{minimal_completed, supported_agrees}
use Rattle.ec_logic.proofs.FewAtoms.{six_predicates}
use Rattle.ec_logic.proofs.Minimality.{all_head}
use Rattle.ec_minimal.specs.Effects.{with_effects}
use Rattle.ec_models.proofs.VisibleParts.{effects, visible_of, visible_same, same_but_effects}
use Rattle.ec_models.proofs.Finding.{tried_found, tried_passed}
use Rattle.ec_models.specs.Tried.{AreTried}

-- all but the effects is as before
effects_alone : (theory : Theory) → BeginsWithEffects theory.groups → (m : Structure) (p : ℕ) (vs : List ℤ) → is_one_of effects p ≡ false → with_effects theory m p vs ≡ m p vs
effects_alone theory begins m p vs h = by_groups theory.groups begins
  where
    by_groups : (groups : List Group) → BeginsWithEffects groups → with_effects (record theory { groups = groups }) m p vs ≡ m p vs
    by_groups [] begins = absurd begins
    by_groups (group ∷ groups) begins = let out : is_in_group group p ≡ false = rw begins h in rw out refl

-- in a minimal model the effects are those that the first group supports
effects_follow : (theory : Theory) → All (IsValidGroup theory.signature) theory.groups → BeginsWithEffects theory.groups → (m old : Structure) → AreMinimalIn (universe_of theory.signature) theory.groups m
    → ((p : ℕ) (vs : List ℤ) → is_one_of effects p ≡ false → m p vs ≡ old p vs) → (p : ℕ) (vs : List ℤ) → m p vs ≡ with_effects theory old p vs
effects_follow theory valid begins m old minimal agree p vs = by_groups theory.groups valid begins minimal
  where
    by_groups : (groups : List Group) → All (IsValidGroup theory.signature) groups → BeginsWithEffects groups → AreMinimalIn (universe_of theory.signature) groups m → m p vs ≡ with_effects (record theory { groups = groups }) old p vs
    by_groups [] valid begins minimal = absurd begins
    by_groups (group ∷ groups) valid begins minimal =
        let universe = universe_of theory.signature in
        let form = (all_head (IsValidGroup theory.signature) group groups valid).clause_form in
        let outside : (q : ℕ) (us : List ℤ) → is_in_group group q ≡ false → m q us ≡ old q us = λ q us h. agree q us (rw begins at h) in
        test_cases (m p vs ≡ filled universe group old p vs) (is_in_group group p)
        (λ e. minimal_completed universe group form m minimal.0 p vs e ∙ (supported_agrees universe group form m old outside p vs ∙ rw e refl))
        (λ e. outside p vs e ∙ rw e refl)

-- what filling gives of truths of all atoms
module _ (theory : Theory) (valid : IsValidTheory theory) (old new : List Bool)
    (size_old : length old ≡ length (all_atoms (universe_of theory.signature))) (size_new : length new ≡ length (all_atoms (universe_of theory.signature)))
    (fills : (p : ℕ) (vs : List ℤ) → structure_of (universe_of theory.signature) new p vs ≡ with_effects theory (structure_of (universe_of theory.signature) old) p vs) where
  abbrev universe : Universe
  universe = universe_of theory.signature

  abbrev visible : ℕ
  visible = length (visible_atoms universe)

  many : 6 ≤ length universe.predicates
  many = six_predicates theory.signature valid.signature

  outside : (p : ℕ) (vs : List ℤ) → is_one_of effects p ≡ false → structure_of universe new p vs ≡ structure_of universe old p vs
  outside p vs h = fills p vs ∙ effects_alone theory valid.effects_first (structure_of universe old) p vs h

  pub visible_kept : take visible new ≡ take visible old
  visible_kept = sym (visible_of universe many new size_new) ∙ (visible_same universe (structure_of universe new) (structure_of universe old) outside ∙ visible_of universe many old size_old)

  pub truth_if_minimal : IsMinimalModel theory (structure_of universe new) → IsTruth theory (take visible new)
  truth_if_minimal h = (structure_of universe new, h, visible_of universe many new size_new)

  pub minimal_if_truth : IsTruth theory (take visible new) → IsMinimalModel theory (structure_of universe new)
  minimal_if_truth is =
      let m = is.0 in
      let model = is.1 in
      let agree : (p : ℕ) (vs : List ℤ) → is_one_of effects p ≡ false → m p vs ≡ structure_of universe old p vs = λ p vs h. same_but_effects universe many m model.structure new size_new is.2 p vs h ∙ outside p vs h in
      let same : m ≡ structure_of universe new = fun_ext (λ p. fun_ext (λ vs. effects_follow theory valid.groups valid.effects_first m (structure_of universe old) model.groups agree p vs ∙ sym (fills p vs))) in
      subst (IsMinimalModel theory) same model

  -- what is kept of one truth
  pub kept_minimal : (before after : List (List Bool)) → IsMinimalModel theory (structure_of universe new) → after ≡ before ++ take visible new ∷ [] → AreTried theory (take visible old ∷ []) before after
  kept_minimal before after h e =
      let P : List Bool → Type 0 = λ xs. AreTried theory (xs ∷ []) before (before ++ take visible new ∷ []) in
      rw e (subst P visible_kept (tried_found theory (take visible new) before (truth_if_minimal h)))

  pub kept_other : (before : List (List Bool)) → (IsMinimalModel theory (structure_of universe new) → ⊥) → AreTried theory (take visible old ∷ []) before before
  kept_other before h =
      let P : List Bool → Type 0 = λ xs. AreTried theory (xs ∷ []) before before in
      subst P visible_kept (tried_passed theory (take visible new) before (λ is. h (minimal_if_truth is)))
