-- A sentence reads nothing of the values around it.
use Rattle.std.proofs.Common.{◌≡◌, ◌<◌, ℕ, ◌==◌, Bool, true, ◌&&◌, List, [], ◌∷◌, ◌++◌, length, ℤ, Option, Some, None, slice_get, refl, ap, arith}
use Rattle.std.proofs.Math.Path.{fun_ext}
use Rattle.std.proofs.lemmas.Bool.Decides.{nat_tests}
use Rattle.std.proofs.lemmas.Option.{slice_get_within}
use Rattle.std.specs.List.{list_any}
use Rattle.ec_logic.specs.Tree.{Term, variable, int, constant, event, fluent, sum, difference, product, Terms, no_terms, term, Formula, verum, falsum, atom, equal, less, negation, all_of, any_of, implies, iff, for_all, exists, Formulas, no_formulas, formula}
use Rattle.ec_logic.specs.Signature.{Signature, integer_sort}
use Rattle.ec_logic.specs.Universe.{Universe, argument_sorts, row_of}
use Rattle.ec_logic.specs.Value.{same_values}
use Rattle.ec_logic.specs.Place.{kept_values}
use Rattle.ec_logic.specs.Truth.{Structure}
use Rattle.ec_logic.specs.Shift.{shifted_term, shifted_terms, shifted, shifted_each}
use Rattle.ec_logic.specs.ClauseTree.{supports, one_supports}
use Rattle.ec_logic.specs.Sorting.{is_argument_of, sort_found, has_sort, Fits, AllFit, IsWellSorted, AreWellSorted}
use Rattle.ec_logic.proofs.Shifting.{values-shifted, kept_values-shifted, truth-shifted}

pub has_binder : (test : ℕ → Bool) (scope : List ℕ) (k : ℕ) → has_sort test scope k ≡ true → k < length scope
has_binder test scope k h = by_found (slice_get scope k) refl h
  where
    by_found : (o : Option ℕ) → slice_get scope k ≡ o → sort_found test o ≡ true → k < length scope
    by_found None e h = cc
    by_found (Some s) e h = slice_get_within scope k s e

module _ (signature : Signature) where
  mutual
    term-closed : (scope : List ℕ) (by s : ℕ) (t : Term) → Fits signature scope s t → shifted_term (length scope) by t ≡ t
    term-closed scope by s (variable k) h = let below = has_binder (is_argument_of signature s) scope k h in ap variable (grind (arith, nat_tests))
    term-closed scope by s (int z) h = refl
    term-closed scope by s (constant c) h = refl
    term-closed scope by s (event e ts) h = ap (event e) (terms-closed scope by (row_of (argument_sorts signature.events) e) ts h.2)
    term-closed scope by s (fluent e ts) h = ap (fluent e) (terms-closed scope by (row_of (argument_sorts signature.fluents) e) ts h.2)
    term-closed scope by s (sum a b) h = rw (term-closed scope by integer_sort a h.1, term-closed scope by integer_sort b h.2) refl
    term-closed scope by s (difference a b) h = rw (term-closed scope by integer_sort a h.1, term-closed scope by integer_sort b h.2) refl
    term-closed scope by s (product a b) h = rw (term-closed scope by integer_sort a h.1, term-closed scope by integer_sort b h.2) refl

    terms-closed : (scope : List ℕ) (by : ℕ) (ss : List ℕ) (ts : Terms) → AllFit signature scope ss ts → shifted_terms (length scope) by ts ≡ ts
    terms-closed scope by [] no_terms h = refl
    terms-closed scope by (s ∷ ss) no_terms h = refl
    terms-closed scope by [] (term t ts) h = absurd h
    terms-closed scope by (s ∷ ss) (term t ts) h = rw (term-closed scope by s t h.0, terms-closed scope by ss ts h.1) refl

  mutual
    pub shifted-closed : (scope : List ℕ) (by : ℕ) (f : Formula) → IsWellSorted signature scope f → shifted (length scope) by f ≡ f
    shifted-closed scope by verum h = refl
    shifted-closed scope by falsum h = refl
    shifted-closed scope by (atom p ts) h = ap (atom p) (terms-closed scope by (row_of (argument_sorts signature.predicates) p) ts h.1)
    shifted-closed scope by (equal a b) h = rw (term-closed scope by h.left_sort a h.left, term-closed scope by h.right_sort b h.right) refl
    shifted-closed scope by (less a b) h = rw (term-closed scope by integer_sort a h.0, term-closed scope by integer_sort b h.1) refl
    shifted-closed scope by (negation f) h = ap negation (shifted-closed scope by f h)
    shifted-closed scope by (all_of fs) h = ap all_of (shifted_each-closed scope by fs h)
    shifted-closed scope by (any_of fs) h = ap any_of (shifted_each-closed scope by fs h)
    shifted-closed scope by (implies f g) h = rw (shifted-closed scope by f h.0, shifted-closed scope by g h.1) refl
    shifted-closed scope by (iff f g) h = rw (shifted-closed scope by f h.0, shifted-closed scope by g h.1) refl
    shifted-closed scope by (for_all s f) h = ap (for_all s) (shifted-closed (s ∷ scope) by f h.1)
    shifted-closed scope by (exists s f) h = ap (exists s) (shifted-closed (s ∷ scope) by f h.1)

    shifted_each-closed : (scope : List ℕ) (by : ℕ) (fs : Formulas) → AreWellSorted signature scope fs → shifted_each (length scope) by fs ≡ fs
    shifted_each-closed scope by no_formulas h = refl
    shifted_each-closed scope by (formula f fs) h = rw (shifted-closed scope by f h.0, shifted_each-closed scope by fs h.1) refl

module _ (universe : Universe) (m : Structure) (new env : List ℤ) (p : ℕ) (vs : List ℤ) where
  mutual
    supports-shifted : (outer : List ℤ) (f : Formula) → supports universe m p vs (outer ++ (new ++ env)) (shifted (length outer) (length new) f) ≡ supports universe m p vs (outer ++ env) f
    supports-shifted outer verum = refl
    supports-shifted outer falsum = refl
    supports-shifted outer (atom q ts) = ap (λ us. (q == p) && same_values us vs) (values-shifted universe m new env outer ts)
    supports-shifted outer (equal a b) = refl
    supports-shifted outer (less a b) = refl
    supports-shifted outer (negation f) = refl
    supports-shifted outer (all_of fs) = one_supports-shifted outer fs
    supports-shifted outer (any_of fs) = refl
    supports-shifted outer (implies f g) = rw (truth-shifted universe m new env outer f, supports-shifted outer g) refl
    supports-shifted outer (iff f g) = refl
    supports-shifted outer (for_all s f) =
        rw (kept_values-shifted universe m new env outer s f) (ap (λ test. list_any test (kept_values universe (outer ++ env) s f)) (fun_ext (λ v. supports-shifted (v ∷ outer) f)))
    supports-shifted outer (exists s f) = refl

    one_supports-shifted : (outer : List ℤ) (fs : Formulas) → one_supports universe m p vs (outer ++ (new ++ env)) (shifted_each (length outer) (length new) fs) ≡ one_supports universe m p vs (outer ++ env) fs
    one_supports-shifted outer no_formulas = refl
    one_supports-shifted outer (formula f fs) = rw (supports-shifted outer f, one_supports-shifted outer fs) refl

-- what a sentence supports doesn't depend on values around it
pub supports-closed : (signature : Signature) (universe : Universe) (m : Structure) (new : List ℤ) (p : ℕ) (vs : List ℤ) (f : Formula) → IsWellSorted signature [] f → supports universe m p vs (new ++ []) f ≡ supports universe m p vs [] f
supports-closed signature universe m new p vs f h = let e = supports-shifted universe m new [] p vs [] f in rw (shifted-closed signature [] (length new) f h) at e
