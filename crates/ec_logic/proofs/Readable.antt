-- A well-sorted and bounded formula is readable.
use Rattle.std.proofs.Common.{◌≡◌, ℕ, zero, suc, ◌+◌, ◌*◌, ◌<◌, ◌≤◌, drop, take-append-drop, Bool, true, false, List, [], ◌∷◌, ◌++◌, length, ℤ, pos, negsuc, ◌+ℤ◌, ◌*ℤ◌, neg_ℤ, nat_abs, Option, Some, None, refl, sym, ap, arith, unwrap_or, slice_get, ◌∙◌}
use Rattle.std.proofs.Math.Nat.{mul-le-mul}
use Rattle.std.proofs.lemmas.Int.{ints}
use Rattle.ec_logic.specs.Tree.{Term, variable, int, constant, event, fluent, sum, difference, product, Terms, no_terms, term, Formula, verum, falsum, atom, equal, less, negation, all_of, any_of, implies, iff, for_all, exists, Formulas, no_formulas, formula}
use Rattle.ec_logic.specs.Signature.{Signature, integer_sort, time_sort}
use Rattle.ec_logic.specs.BuiltIn.{built_in_sorts}
use Rattle.ec_logic.specs.Universe.{universe_of, extent_at, extent_of_range}
use Rattle.ec_logic.specs.Value.{value}
use Rattle.ec_logic.specs.Valid.{IsSignature, is_integer_sort, is_plain_sort, range_of}
use Rattle.ec_logic.specs.Sorting.{Fits, AllFit, IsWellSorted, AreWellSorted, has_sort, sort_found, is_argument_of}
use Rattle.ec_logic.specs.Bound.{greater_end, bound, bound_of_sort, HasSmallBounds, HaveSmallBounds, IsBounded, AreBounded}
use Rattle.ec_logic.specs.Turns.{IsValueOf}
use Rattle.ec_logic.specs.Reading.{IsReadableTerm, AreReadableTerms, IsReadable, AreReadable}
use Rattle.ec_logic.specs.ValidTheory.{IsSentence}
use Rattle.ec_logic.proofs.Extents.{extent_integer, range_value_within}

nat_abs-neg : (z : ℤ) → nat_abs (neg_ℤ z) ≡ nat_abs z
nat_abs-neg (pos zero) = refl
nat_abs-neg (pos (suc n)) = refl
nat_abs-neg (negsuc n) = refl

nat_abs-add : (a b : ℤ) → nat_abs (a +ℤ b) ≤ nat_abs a + nat_abs b
nat_abs-add (pos a) (pos b) = grind (arith, ints)
nat_abs-add (pos a) (negsuc b) = grind (arith, ints)
nat_abs-add (negsuc a) (pos b) = grind (arith, ints)
nat_abs-add (negsuc a) (negsuc b) = grind (arith, ints)

nat_abs-mul : (a b : ℤ) → nat_abs (a *ℤ b) ≡ nat_abs a * nat_abs b
nat_abs-mul (pos a) (pos b) = refl
nat_abs-mul (pos a) (negsuc b) = nat_abs-neg (pos (a * suc b))
nat_abs-mul (negsuc a) (pos b) = nat_abs-neg (pos (suc a * b))
nat_abs-mul (negsuc a) (negsuc b) = refl

-- ---- the sort of whole numbers

first_sorts : (signature : Signature) → IsSignature signature → signature.sorts ≡ built_in_sorts (range_of signature integer_sort) (range_of signature time_sort) (range_of signature 3) ++ drop 6 signature.sorts
first_sorts signature valid = sym (take-append-drop 6 signature.sorts) ∙ ap (λ rows. rows ++ drop 6 signature.sorts) valid.built_in_first.sorts

pub integer_is_integer : (signature : Signature) → IsSignature signature → is_integer_sort signature integer_sort ≡ true
integer_is_integer signature valid = rw (first_sorts signature valid) refl

integer_not_plain : (signature : Signature) → IsSignature signature → is_plain_sort signature integer_sort ≡ false
integer_not_plain signature valid = rw (first_sorts signature valid) refl

-- ---- values within the ends of their sorts' ranges

-- each value of a sort of whole numbers is within the greater end of the sort's range
abbrev pub AreWithinEnds : Signature → List ℕ → List ℤ → Type 0
AreWithinEnds signature [] [] = Unit {0}
AreWithinEnds signature (s ∷ scope) (v ∷ env) = (is_integer_sort signature s ≡ true → nat_abs v ≤ greater_end (range_of signature s)) × AreWithinEnds signature scope env
AreWithinEnds signature _ _ = ⊥

same_lengths : (signature : Signature) (scope : List ℕ) (env : List ℤ) → AreWithinEnds signature scope env → length scope ≡ length env
same_lengths signature [] [] h = refl
same_lengths signature [] (v ∷ env) h = absurd h
same_lengths signature (s ∷ scope) [] h = absurd h
same_lengths signature (s ∷ scope) (v ∷ env) h = ap suc (same_lengths signature scope env h.1)

within_at : (signature : Signature) (scope : List ℕ) (env : List ℤ) (k : ℕ) → AreWithinEnds signature scope env → has_sort (is_integer_sort signature) scope k ≡ true → nat_abs (unwrap_or (slice_get env k) (pos 0)) ≤ bound_of_sort signature (slice_get scope k)
within_at signature [] [] k h i = cc
within_at signature [] (v ∷ env) k h i = absurd h
within_at signature (s ∷ scope) [] k h i = absurd h
within_at signature (s ∷ scope) (v ∷ env) zero h i = h.0 i
within_at signature (s ∷ scope) (v ∷ env) (suc k) h i = within_at signature scope env k h.1 i

open_below : (test : ℕ → Bool) (scope : List ℕ) (k : ℕ) → has_sort test scope k ≡ true → k < length scope
open_below test [] k h = cc
open_below test (s ∷ scope) zero h = omega arith
open_below test (s ∷ scope) (suc k) h = let low = open_below test scope k h in omega arith

module _ (signature : Signature) (valid : IsSignature signature) where
  whole_variable : (scope : List ℕ) (k : ℕ) → has_sort (is_argument_of signature integer_sort) scope k ≡ true → has_sort (is_integer_sort signature) scope k ≡ true
  whole_variable scope k h = found_whole (slice_get scope k) h
    where
      found_whole : (o : Option ℕ) → sort_found (is_argument_of signature integer_sort) o ≡ true → sort_found (is_integer_sort signature) o ≡ true
      found_whole None e = cc
      found_whole (Some r) e = rw (integer_is_integer signature valid) at e

  not_plain : (P : Type 0) → is_plain_sort signature integer_sort ≡ true → P
  not_plain P h = let n = integer_not_plain signature valid in cc

  -- the value of a term of whole numbers is within its bound
  value_within : (scope : List ℕ) (env : List ℤ) (t : Term) → AreWithinEnds signature scope env → Fits signature scope integer_sort t → nat_abs (value (universe_of signature) env t) ≤ bound signature scope t
  value_within scope env (variable k) w f = within_at signature scope env k w (whole_variable scope k f)
  value_within scope env (int z) w f = omega arith
  value_within scope env (constant c) w f = not_plain (c ≤ 0) f.0
  value_within scope env (event s ts) w f = absurd (omega (arith, f.0))
  value_within scope env (fluent s ts) w f = absurd (omega (arith, f.0))
  value_within scope env (sum a b) w f = omega (arith, nat_abs-add (value (universe_of signature) env a) (value (universe_of signature) env b), value_within scope env a w f.1, value_within scope env b w f.2)
  value_within scope env (difference a b) w f = omega (arith, nat_abs-add (value (universe_of signature) env a) (neg_ℤ (value (universe_of signature) env b)), nat_abs-neg (value (universe_of signature) env b), value_within scope env a w f.1, value_within scope env b w f.2)
  value_within scope env (product a b) w f = rw (nat_abs-mul (value (universe_of signature) env a) (value (universe_of signature) env b)) (mul-le-mul (value_within scope env a w f.1) (value_within scope env b w f.2))

  mutual
    term_readable : (scope : List ℕ) (env : List ℤ) (s : ℕ) (t : Term) → AreWithinEnds signature scope env → Fits signature scope s t → HasSmallBounds signature scope t → IsReadableTerm signature env t
    term_readable scope env s (variable k) w f b = let low = open_below (is_argument_of signature s) scope k f in let e = same_lengths signature scope env w in omega arith
    term_readable scope env s (int z) w f b = tt
    term_readable scope env s (constant c) w f b = tt
    term_readable scope env s (event e ts) w f b = terms_readable scope env _ ts w f.2 b
    term_readable scope env s (fluent e ts) w f b = terms_readable scope env _ ts w f.2 b
    term_readable scope env s (sum x y) w f b = (
      term_readable scope env integer_sort x w f.1 b.0,
      term_readable scope env integer_sort y w f.2 b.1,
      omega (arith, value_within scope env (sum x y) w (integer_is_integer signature valid, f.1, f.2), b.2),
    )
    term_readable scope env s (difference x y) w f b = (
      term_readable scope env integer_sort x w f.1 b.0,
      term_readable scope env integer_sort y w f.2 b.1,
      omega (arith, value_within scope env (difference x y) w (integer_is_integer signature valid, f.1, f.2), b.2),
    )
    term_readable scope env s (product x y) w f b = (
      term_readable scope env integer_sort x w f.1 b.0,
      term_readable scope env integer_sort y w f.2 b.1,
      omega (arith, value_within scope env (product x y) w (integer_is_integer signature valid, f.1, f.2), b.2),
    )

    terms_readable : (scope : List ℕ) (env : List ℤ) (ss : List ℕ) (ts : Terms) → AreWithinEnds signature scope env → AllFit signature scope ss ts → HaveSmallBounds signature scope ts → AreReadableTerms signature env ts
    terms_readable scope env [] no_terms w f b = tt
    terms_readable scope env [] (term t ts) w f b = absurd f
    terms_readable scope env (s ∷ ss) no_terms w f b = tt
    terms_readable scope env (s ∷ ss) (term t ts) w f b = (term_readable scope env s t w f.0 b.0, terms_readable scope env ss ts w f.1 b.1)

  value_ends : (s : ℕ) (v : ℤ) → IsValueOf (extent_at (universe_of signature) s) v → is_integer_sort signature s ≡ true → nat_abs v ≤ greater_end (range_of signature s)
  value_ends s v here whole =
      let there : IsValueOf (extent_of_range (range_of signature s)) v = rw (extent_integer signature s whole) at here in
      range_value_within (range_of signature s) v there

  mutual
    pub formula_readable : (scope : List ℕ) (env : List ℤ) (f : Formula) → AreWithinEnds signature scope env → IsWellSorted signature scope f → IsBounded signature scope f → IsReadable signature env f
    formula_readable scope env verum w f b = tt
    formula_readable scope env falsum w f b = tt
    formula_readable scope env (atom p ts) w f b = (f.0, terms_readable scope env _ ts w f.1 b)
    formula_readable scope env (equal x y) w f b = (term_readable scope env f.left_sort x w f.left b.0, term_readable scope env f.right_sort y w f.right b.1)
    formula_readable scope env (less x y) w f b = (term_readable scope env integer_sort x w f.0 b.0, term_readable scope env integer_sort y w f.1 b.1)
    formula_readable scope env (negation g) w f b = formula_readable scope env g w f b
    formula_readable scope env (all_of fs) w f b = formulas_readable scope env fs w f b
    formula_readable scope env (any_of fs) w f b = formulas_readable scope env fs w f b
    formula_readable scope env (implies g h) w f b = (formula_readable scope env g w f.0 b.0, formula_readable scope env h w f.1 b.1)
    formula_readable scope env (iff g h) w f b = (formula_readable scope env g w f.0 b.0, formula_readable scope env h w f.1 b.1)
    formula_readable scope env (for_all s g) w f b =
        (f.0, formula_readable (s ∷ scope) (pos 0 ∷ env) g (λ whole. omega arith, w) f.1 b, λ v here. formula_readable (s ∷ scope) (v ∷ env) g (value_ends s v here, w) f.1 b)
    formula_readable scope env (exists s g) w f b =
        (f.0, formula_readable (s ∷ scope) (pos 0 ∷ env) g (λ whole. omega arith, w) f.1 b, λ v here. formula_readable (s ∷ scope) (v ∷ env) g (value_ends s v here, w) f.1 b)

    formulas_readable : (scope : List ℕ) (env : List ℤ) (fs : Formulas) → AreWithinEnds signature scope env → AreWellSorted signature scope fs → AreBounded signature scope fs → AreReadable signature env fs
    formulas_readable scope env no_formulas w f b = tt
    formulas_readable scope env (formula g gs) w f b = (formula_readable scope env g w f.0 b.0, formulas_readable scope env gs w f.1 b.1)

-- a sentence is readable
pub sentence_readable : (signature : Signature) (f : Formula) → IsSignature signature → IsSentence signature f → IsReadable signature [] f
sentence_readable signature f valid sentence = formula_readable signature valid [] [] f tt sentence.well_sorted sentence.bounded
