-- A folded formula has the formula's truth.
use Rattle.std.proofs.Common.{◌≡◌, ℕ, Bool, true, false, not, ◌&&◌, ◌||◌, List, [], ◌∷◌, ℤ, map, refl, sym, ap, ◌∙◌, if◌then◌else◌}
use Rattle.std.specs.Prelude.{int_lt}
use Rattle.std.specs.List.{list_all, list_any}
use Rattle.std.specs.Ordering.{int_eq}
use Rattle.ec_logic.specs.Tree.{Formula, verum, falsum, atom, equal, less, negation, all_of, any_of, implies, iff, for_all, exists, Formulas, no_formulas, formula}
use Rattle.ec_logic.specs.Universe.{Universe}
use Rattle.ec_logic.specs.Value.{value, values}
use Rattle.ec_logic.specs.Place.{kept_values}
use Rattle.ec_logic.specs.Truth.{Structure, truth, all_true, any_true}
use Rattle.ec_folding.specs.Tree.{Tree, true_in, under_sign}
use Rattle.ec_folding.specs.Join.{join}
use Rattle.ec_folding.proofs.JoinTruth.{quantified, and_or_or, quantified-cons, true_in-join, true_in-constant}
use Rattle.ec_grounding.specs.Folded.{Leaf, fixed, numbered, Reading, leaf_tree, leaf_truth, folded, folded_each}

sign-not : (sign b : Bool) → under_sign (not sign) b ≡ under_sign sign (not b)
sign-not true b = refl
sign-not false true = refl
sign-not false false = refl

sign-true : (sign : Bool) → under_sign sign true ≡ sign
sign-true true = refl
sign-true false = refl

sign-false : (sign : Bool) → under_sign sign false ≡ not sign
sign-false true = refl
sign-false false = refl

sign-and : (sign a b : Bool) → and_or_or sign (under_sign sign a) (under_sign sign b) ≡ under_sign sign (a && b)
sign-and true a b = refl
sign-and false true b = refl
sign-and false false b = refl

sign-or : (sign a b : Bool) → and_or_or (not sign) (under_sign sign a) (under_sign sign b) ≡ under_sign sign (a || b)
sign-or true a b = refl
sign-or false true b = refl
sign-or false false b = refl

sign-implies : (sign a b : Bool) → and_or_or (not sign) (under_sign (not sign) a) (under_sign sign b) ≡ under_sign sign (not a || b)
sign-implies true a b = refl
sign-implies false true b = refl
sign-implies false false b = refl

sign-iff : (sign a b : Bool) → and_or_or true (and_or_or false (under_sign (not sign) a) b) (and_or_or false (under_sign sign a) (not b)) ≡ under_sign sign (if a then b else not b)
sign-iff true true true = refl
sign-iff true true false = refl
sign-iff true false true = refl
sign-iff true false false = refl
sign-iff false true true = refl
sign-iff false true false = refl
sign-iff false false true = refl
sign-iff false false false = refl

module _ (v : ℕ → Bool) where
  two : (sign : Bool) (t u : Tree) → true_in v (join sign (t ∷ u ∷ [])) ≡ and_or_or sign (true_in v t) (true_in v u)
  two sign t u = true_in-join v sign (t ∷ u ∷ []) ∙ both sign
    where
      by_and : (a b : Bool) → (a && (b && true)) ≡ (a && b)
      by_and true true = refl
      by_and true false = refl
      by_and false b = refl

      by_or : (a b : Bool) → (a || (b || false)) ≡ (a || b)
      by_or true b = refl
      by_or false true = refl
      by_or false false = refl

      both : (sign : Bool) → quantified sign v (t ∷ u ∷ []) ≡ and_or_or sign (true_in v t) (true_in v u)
      both true = by_and (true_in v t) (true_in v u)
      both false = by_or (true_in v t) (true_in v u)

  true_in-leaf_tree : (sign : Bool) (leaf : Leaf) → true_in v (leaf_tree sign leaf) ≡ under_sign sign (leaf_truth v leaf)
  true_in-leaf_tree sign (fixed b) = true_in-constant v (under_sign sign b)
  true_in-leaf_tree sign (numbered a) = refl

  for_each_value : (sign : Bool) (tree : ℤ → Tree) (test : ℤ → Bool) → ((x : ℤ) → true_in v (tree x) ≡ under_sign sign (test x)) → (xs : List ℤ) → quantified sign v (map tree xs) ≡ under_sign sign (list_all test xs)
  for_each_value true tree test e [] = refl
  for_each_value false tree test e [] = refl
  for_each_value sign tree test e (x ∷ xs) = quantified-cons v sign (tree x) (map tree xs) ∙ (rw (e x, for_each_value sign tree test e xs) (sign-and sign (test x) (list_all test xs)))

  for_some_value : (sign : Bool) (tree : ℤ → Tree) (test : ℤ → Bool) → ((x : ℤ) → true_in v (tree x) ≡ under_sign sign (test x)) → (xs : List ℤ) → quantified (not sign) v (map tree xs) ≡ under_sign sign (list_any test xs)
  for_some_value true tree test e [] = refl
  for_some_value false tree test e [] = refl
  for_some_value sign tree test e (x ∷ xs) = quantified-cons v (not sign) (tree x) (map tree xs) ∙ (rw (e x, for_some_value sign tree test e xs) (sign-or sign (test x) (list_any test xs)))

-- Where the reading gives each atom its truth in a structure.
module _ (universe : Universe) (m : Structure) (reading : Reading) (v : ℕ → Bool) (reads : (p : ℕ) (vs : List ℤ) → leaf_truth v (reading p vs) ≡ m p vs) where
  mutual
    pub true_in-folded : (env : List ℤ) (sign : Bool) (f : Formula) → true_in v (folded universe reading env sign f) ≡ under_sign sign (truth universe m env f)
    true_in-folded env sign verum = true_in-constant v sign ∙ sym (sign-true sign)
    true_in-folded env sign falsum = true_in-constant v (not sign) ∙ sym (sign-false sign)
    true_in-folded env sign (atom p ts) = true_in-leaf_tree v sign (reading p (values universe env ts)) ∙ ap (under_sign sign) (reads p (values universe env ts))
    true_in-folded env sign (equal a b) = true_in-constant v (under_sign sign (int_eq (value universe env a) (value universe env b)))
    true_in-folded env sign (less a b) = true_in-constant v (under_sign sign (int_lt (value universe env a) (value universe env b)))
    true_in-folded env sign (negation f) = true_in-folded env (not sign) f ∙ sign-not sign (truth universe m env f)
    true_in-folded env sign (all_of fs) = true_in-join v sign (folded_each universe reading env sign fs) ∙ all_folded env sign fs
    true_in-folded env sign (any_of fs) = true_in-join v (not sign) (folded_each universe reading env sign fs) ∙ any_folded env sign fs
    true_in-folded env sign (implies f g) =
        two v (not sign) (folded universe reading env (not sign) f) (folded universe reading env sign g)
        ∙ (rw (true_in-folded env (not sign) f, true_in-folded env sign g) (sign-implies sign (truth universe m env f) (truth universe m env g)))
    true_in-folded env sign (iff f g) =
        two v true (join false (folded universe reading env (not sign) f ∷ folded universe reading env true g ∷ [])) (join false (folded universe reading env sign f ∷ folded universe reading env false g ∷ []))
        ∙ (rw (two v false (folded universe reading env (not sign) f) (folded universe reading env true g), two v false (folded universe reading env sign f) (folded universe reading env false g), true_in-folded env (not sign) f, true_in-folded env true g, true_in-folded env sign f, true_in-folded env false g)
        (sign-iff sign (truth universe m env f) (truth universe m env g)))
    true_in-folded env sign (for_all s f) =
        true_in-join v sign (map (λ x. folded universe reading (x ∷ env) sign f) (kept_values universe env s f))
        ∙ for_each_value v sign (λ x. folded universe reading (x ∷ env) sign f) (λ x. truth universe m (x ∷ env) f) (λ x. true_in-folded (x ∷ env) sign f) (kept_values universe env s f)
    true_in-folded env sign (exists s f) =
        true_in-join v (not sign) (map (λ x. folded universe reading (x ∷ env) sign f) (kept_values universe env s f))
        ∙ for_some_value v sign (λ x. folded universe reading (x ∷ env) sign f) (λ x. truth universe m (x ∷ env) f) (λ x. true_in-folded (x ∷ env) sign f) (kept_values universe env s f)

    all_folded : (env : List ℤ) (sign : Bool) (fs : Formulas) → quantified sign v (folded_each universe reading env sign fs) ≡ under_sign sign (all_true universe m env fs)
    all_folded env true no_formulas = refl
    all_folded env false no_formulas = refl
    all_folded env sign (formula f fs) =
        quantified-cons v sign (folded universe reading env sign f) (folded_each universe reading env sign fs)
        ∙ (rw (true_in-folded env sign f, all_folded env sign fs) (sign-and sign (truth universe m env f) (all_true universe m env fs)))

    any_folded : (env : List ℤ) (sign : Bool) (fs : Formulas) → quantified (not sign) v (folded_each universe reading env sign fs) ≡ under_sign sign (any_true universe m env fs)
    any_folded env true no_formulas = refl
    any_folded env false no_formulas = refl
    any_folded env sign (formula f fs) =
        quantified-cons v (not sign) (folded universe reading env sign f) (folded_each universe reading env sign fs)
        ∙ (rw (true_in-folded env sign f, any_folded env sign fs) (sign-or sign (truth universe m env f) (any_true universe m env fs)))
