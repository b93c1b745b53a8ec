-- The group of a predicate.
use Rattle.std.proofs.Common.{◌≡◌, ℕ, suc, ◌==◌, Bool, true, false, List, [], ◌∷◌, ℤ, All, Some, refl, ap, sym, subst, ◌∙◌, if◌then◌else◌, arith}
use Rattle.std.specs.List.{AllPairs, list_any}
use Rattle.std.proofs.lemmas.List.Elements.{All-head, All-tail}
use Rattle.ec_logic.specs.Universe.{Universe}
use Rattle.ec_logic.specs.Truth.{Structure}
use Rattle.ec_logic.specs.Theory.{Group, is_in_group}
use Rattle.ec_logic.specs.ClauseTree.{is_supported}
use Rattle.ec_logic.specs.Completed.{IsCompletedIn, AreCompletedIn}
use Rattle.ec_logic.specs.ValidTheory.{effect_predicates, BeginsWithEffects, AreDisjoint}
use Rattle.ec_logic.proofs.Tests.{test_cases}
use Rattle.ec_grounding.specs.Grounded.{is_effect, group_with}

module _ (p : ℕ) (group : Group) where
  -- it has what all groups have, and the predicate
  pub found_group : (P : Group → Type 0) (groups : List Group) → All P groups → group_with groups p ≡ Some group → P group × (is_in_group group p ≡ true)
  found_group P [] h e = cc
  found_group P (x ∷ xs) h e = by_test (is_in_group x p) refl e (found_group P xs (All-tail P x xs h))
    where
      by_test : (b : Bool) → is_in_group x p ≡ b → (if b then Some x else group_with xs p) ≡ Some group → (group_with xs p ≡ Some group → P group × (is_in_group group p ≡ true)) → P group × (is_in_group group p ≡ true)
      by_test true t e rest =
          let same : x ≡ group = cc in
          let A : Group → Type 0 = λ y. P y × (is_in_group y p ≡ true) in
          subst A same (All-head P x xs h, t)
      by_test false t e rest = rest e

  pub found_completed : (universe : Universe) (m : Structure) (groups : List Group) → AreCompletedIn universe groups m → group_with groups p ≡ Some group → IsCompletedIn universe group m
  found_completed universe m [] h e = cc
  found_completed universe m (x ∷ xs) h e = by_test (is_in_group x p) e (found_completed universe m xs h.1)
    where
      by_test : (b : Bool) → (if b then Some x else group_with xs p) ≡ Some group → (group_with xs p ≡ Some group → IsCompletedIn universe group m) → IsCompletedIn universe group m
      by_test true e rest =
          let same : x ≡ group = cc in
          let A : Group → Type 0 = λ y. IsCompletedIn universe y m in
          subst A same h.0
      by_test false e rest = rest e

  -- that of an effect predicate is the first
  pub effect_group : (groups : List Group) → BeginsWithEffects groups → is_effect p ≡ true → group_with groups p ≡ Some group → group.predicates ≡ effect_predicates
  effect_group [] b e h = absurd b
  effect_group (x ∷ xs) b e h =
      let here : is_in_group x p ≡ true = ap (list_any (λ q. q == p)) b ∙ e in
      let is : Some x ≡ Some group = rw here at h in
      let same : x ≡ group = cc in
      ap (λ (y : Group). y.predicates) (sym same) ∙ b

pairs_head : (x : Group) (xs : List Group) → AllPairs AreDisjoint (x ∷ xs) → All (AreDisjoint x) xs
pairs_head x xs h k d l = h 0 (suc k) d (omega arith) (omega (arith, l))

pairs_tail : (x : Group) (xs : List Group) → AllPairs AreDisjoint (x ∷ xs) → AllPairs AreDisjoint xs
pairs_tail x xs h i j d l below = h (suc i) (suc j) d (omega (arith, l)) (omega (arith, below))

-- groups are completed where each is at the predicates whose group it is
pub completed_each : (universe : Universe) (m : Structure) (groups : List Group) → AllPairs AreDisjoint groups
    → ((p : ℕ) (group : Group) → group_with groups p ≡ Some group → (vs : List ℤ) → m p vs ≡ is_supported universe m group.sentences p vs) → AreCompletedIn universe groups m
completed_each universe m [] apart h = tt
completed_each universe m (x ∷ xs) apart h = (λ p vs e. h p x (rw e refl) vs, completed_each universe m xs (pairs_tail x xs apart) later)
  where
    later : (p : ℕ) (group : Group) → group_with xs p ≡ Some group → (vs : List ℤ) → m p vs ≡ is_supported universe m group.sentences p vs
    later p group e vs =
        test_cases (m p vs ≡ is_supported universe m group.sentences p vs) (is_in_group x p)
        (λ t. let both = found_group p group (AreDisjoint x) xs (pairs_head x xs apart) e in let out = both.0 p t in let in-it = both.1 in absurd cc)
        (λ t. h p group (rw t e) vs)
