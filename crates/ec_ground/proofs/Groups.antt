-- The group of a predicate among the first group and among the others.
use Rattle.std.proofs.Common.{◌≡◌, ℕ, ◌==◌, true, false, List, [], ◌∷◌, Some, None, take, drop, refl, ap, ◌∙◌}
use Rattle.std.specs.List.{list_any}
use Rattle.ec_logic.specs.Theory.{Group, is_in_group}
use Rattle.ec_logic.specs.ValidTheory.{BeginsWithEffects}
use Rattle.ec_grounding.specs.Grounded.{is_effect, group_with}

module _ (p : ℕ) where
  -- the first group has the effect predicates
  first_has : (x : Group) (xs : List Group) → BeginsWithEffects (x ∷ xs) → is_in_group x p ≡ is_effect p
  first_has x xs b = ap (list_any (λ q. q == p)) b

  pub effect_in_first : (groups : List Group) → BeginsWithEffects groups → is_effect p ≡ true → group_with (take 1 groups) p ≡ group_with groups p
  effect_in_first [] b e = absurd b
  effect_in_first (x ∷ xs) b e = let here : is_in_group x p ≡ true = first_has x xs b ∙ e in rw here refl

  pub other_not_in_first : (groups : List Group) → BeginsWithEffects groups → is_effect p ≡ false → group_with (take 1 groups) p ≡ None
  other_not_in_first [] b e = absurd b
  other_not_in_first (x ∷ xs) b e = let here : is_in_group x p ≡ false = first_has x xs b ∙ e in rw here refl

  pub other_in_rest : (groups : List Group) → BeginsWithEffects groups → is_effect p ≡ false → group_with (drop 1 groups) p ≡ group_with groups p
  other_in_rest [] b e = absurd b
  other_in_rest (x ∷ xs) b e = let here : is_in_group x p ≡ false = first_has x xs b ∙ e in rw here refl

-- the effect predicates have a group
pub effect_found : (C : Type 0) (groups : List Group) (p : ℕ) → BeginsWithEffects groups → is_effect p ≡ true → ((group : Group) → group_with groups p ≡ Some group → C) → C
effect_found C [] p b e go = absurd b
effect_found C (x ∷ xs) p b e go = let here : is_in_group x p ≡ true = first_has p x xs b ∙ e in go x (rw here refl)
