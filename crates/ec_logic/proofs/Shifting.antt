-- The value, the places and the truth of a shifted tree under an environment with values put in.
use Rattle.std.proofs.Common.{◌≡◌, ◌≤◌, ◌^◌, false, ℕ, zero, suc, ◌+◌, ◌<◌, not, List, [], ◌∷◌, ◌++◌, length, ℤ, pos, Option, Some, None, option_map, unwrap_or, refl, ap, arith, filter, slice_get}
use Rattle.std.proofs.Math.Path.{fun_ext}
use Rattle.std.proofs.lemmas.Bool.Decides.{nat_tests}
use Rattle.std.specs.List.{list_all, list_any}
use Rattle.ec_logic.specs.Tree.{Term, variable, int, constant, event, fluent, sum, difference, product, Terms, no_terms, term, Formula, verum, falsum, atom, equal, less, negation, all_of, any_of, implies, iff, for_all, exists, Formulas, no_formulas, formula}
use Rattle.ec_logic.specs.Universe.{Universe, domain, row_of}
use Rattle.ec_logic.specs.Value.{value, values}
use Rattle.ec_logic.specs.Place.{nearer, innermost, innermost_of, is_at, place_in_range, term_keeps, terms_keep, keeps, all_keep, kept_values}
use Rattle.ec_logic.specs.Truth.{Structure, truth, all_true, any_true}
use Rattle.ec_logic.specs.Reach.{reach, reach_of, CanShiftTerm, CanShiftTerms}
use Rattle.ec_logic.specs.Shift.{shifted_variable, shifted_term, shifted_terms, shifted, shifted_each, KeepsTruth, KeepsPlaces}

shifted_variable-suc : (from by k : ℕ) → shifted_variable (suc from) by (suc k) ≡ suc (shifted_variable from by k)
shifted_variable-suc from by k = grind (arith, nat_tests)

slice_get-append-add : (xs ys : List ℤ) (k : ℕ) → slice_get (xs ++ ys) (k + length xs) ≡ slice_get ys k
slice_get-append-add [] ys k = let e : k + 0 ≡ k = omega arith in rw e refl
slice_get-append-add (x ∷ xs) ys k = let e : k + length (x ∷ xs) ≡ suc (k + length xs) = omega arith in rw e (slice_get-append-add xs ys k)

slice_get-shifted : (outer new env : List ℤ) (k : ℕ) → slice_get (outer ++ (new ++ env)) (shifted_variable (length outer) (length new) k) ≡ slice_get (outer ++ env) k
slice_get-shifted [] new env k = let e : shifted_variable 0 (length new) k ≡ k + length new = grind (arith, nat_tests) in rw e (slice_get-append-add new env k)
slice_get-shifted (x ∷ outer) new env zero = let e : shifted_variable (length (x ∷ outer)) (length new) 0 ≡ 0 = grind (arith, nat_tests) in rw e refl
slice_get-shifted (x ∷ outer) new env (suc k) = rw (shifted_variable-suc (length outer) (length new) k) (slice_get-shifted outer new env k)

nearer-shifted : (from by : ℕ) (a b : Option ℕ) → nearer (option_map (shifted_variable from by) a) (option_map (shifted_variable from by) b) ≡ option_map (shifted_variable from by) (nearer a b)
nearer-shifted from by None b = refl
nearer-shifted from by (Some a) None = refl
nearer-shifted from by (Some a) (Some b) = ap Some (grind (arith, nat_tests))

mutual
  pub innermost-shifted : (from by : ℕ) (t : Term) → innermost (shifted_term from by t) ≡ option_map (shifted_variable from by) (innermost t)
  innermost-shifted from by (variable k) = refl
  innermost-shifted from by (int z) = refl
  innermost-shifted from by (constant c) = refl
  innermost-shifted from by (event s ts) = innermost_of-shifted from by ts
  innermost-shifted from by (fluent s ts) = innermost_of-shifted from by ts
  innermost-shifted from by (sum a b) = rw (innermost-shifted from by a, innermost-shifted from by b) (nearer-shifted from by (innermost a) (innermost b))
  innermost-shifted from by (difference a b) = rw (innermost-shifted from by a, innermost-shifted from by b) (nearer-shifted from by (innermost a) (innermost b))
  innermost-shifted from by (product a b) = rw (innermost-shifted from by a, innermost-shifted from by b) (nearer-shifted from by (innermost a) (innermost b))

  innermost_of-shifted : (from by : ℕ) (ts : Terms) → innermost_of (shifted_terms from by ts) ≡ option_map (shifted_variable from by) (innermost_of ts)
  innermost_of-shifted from by no_terms = refl
  innermost_of-shifted from by (term t ts) = rw (innermost-shifted from by t, innermost_of-shifted from by ts) (nearer-shifted from by (innermost t) (innermost_of ts))

-- a place keeps its binder
pub is_at-shifted : (from by d : ℕ) (o : Option ℕ) → d < from → is_at d (option_map (shifted_variable from by) o) ≡ is_at d o
is_at-shifted from by d None h = refl
is_at-shifted from by d (Some k) h = grind (arith, nat_tests)

module _ (universe : Universe) (m : Structure) (new env : List ℤ) where
  mutual
    pub value-shifted : (outer : List ℤ) (t : Term) → value universe (outer ++ (new ++ env)) (shifted_term (length outer) (length new) t) ≡ value universe (outer ++ env) t
    value-shifted outer (variable k) = ap (λ o. unwrap_or o (pos 0)) (slice_get-shifted outer new env k)
    value-shifted outer (int z) = refl
    value-shifted outer (constant c) = refl
    value-shifted outer (event s ts) = rw (values-shifted outer ts) refl
    value-shifted outer (fluent s ts) = rw (values-shifted outer ts) refl
    value-shifted outer (sum a b) = rw (value-shifted outer a, value-shifted outer b) refl
    value-shifted outer (difference a b) = rw (value-shifted outer a, value-shifted outer b) refl
    value-shifted outer (product a b) = rw (value-shifted outer a, value-shifted outer b) refl

    pub values-shifted : (outer : List ℤ) (ts : Terms) → values universe (outer ++ (new ++ env)) (shifted_terms (length outer) (length new) ts) ≡ values universe (outer ++ env) ts
    values-shifted outer no_terms = refl
    values-shifted outer (term t ts) = rw (value-shifted outer t, values-shifted outer ts) refl

  place_in_range-shifted : (outer : List ℤ) (d s : ℕ) (t : Term) → d < length outer → place_in_range universe (outer ++ (new ++ env)) d s (shifted_term (length outer) (length new) t) ≡ place_in_range universe (outer ++ env) d s t
  place_in_range-shifted outer d s t h = rw (innermost-shifted (length outer) (length new) t, is_at-shifted (length outer) (length new) d (innermost t) h, value-shifted outer t) refl

  mutual
    term_keeps-shifted : (outer : List ℤ) (d : ℕ) (t : Term) → d < length outer → term_keeps universe (outer ++ (new ++ env)) d (shifted_term (length outer) (length new) t) ≡ term_keeps universe (outer ++ env) d t
    term_keeps-shifted outer d (variable k) h = refl
    term_keeps-shifted outer d (int z) h = refl
    term_keeps-shifted outer d (constant c) h = refl
    term_keeps-shifted outer d (event s ts) h = terms_keep-shifted outer d (row_of universe.events s) ts h
    term_keeps-shifted outer d (fluent s ts) h = terms_keep-shifted outer d (row_of universe.fluents s) ts h
    term_keeps-shifted outer d (sum a b) h = rw (term_keeps-shifted outer d a h, term_keeps-shifted outer d b h) refl
    term_keeps-shifted outer d (difference a b) h = rw (term_keeps-shifted outer d a h, term_keeps-shifted outer d b h) refl
    term_keeps-shifted outer d (product a b) h = rw (term_keeps-shifted outer d a h, term_keeps-shifted outer d b h) refl

    terms_keep-shifted : (outer : List ℤ) (d : ℕ) (ss : List ℕ) (ts : Terms) → d < length outer → terms_keep universe (outer ++ (new ++ env)) d ss (shifted_terms (length outer) (length new) ts) ≡ terms_keep universe (outer ++ env) d ss ts
    terms_keep-shifted outer d ss no_terms h = refl
    terms_keep-shifted outer d [] (term t ts) h = rw (term_keeps-shifted outer d t h, terms_keep-shifted outer d [] ts h) refl
    terms_keep-shifted outer d (s ∷ ss) (term t ts) h = rw (place_in_range-shifted outer d s t h, term_keeps-shifted outer d t h, terms_keep-shifted outer d ss ts h) refl

  mutual
    -- the values of a binder outside keep the same places in range
    pub keeps-shifted : (outer : List ℤ) (d : ℕ) (f : Formula) → d < length outer → keeps universe (outer ++ (new ++ env)) d (shifted (length outer) (length new) f) ≡ keeps universe (outer ++ env) d f
    keeps-shifted outer d verum h = refl
    keeps-shifted outer d falsum h = refl
    keeps-shifted outer d (atom p ts) h = terms_keep-shifted outer d (row_of universe.predicates p) ts h
    keeps-shifted outer d (equal a b) h = rw (term_keeps-shifted outer d a h, term_keeps-shifted outer d b h) refl
    keeps-shifted outer d (less a b) h = rw (term_keeps-shifted outer d a h, term_keeps-shifted outer d b h) refl
    keeps-shifted outer d (negation f) h = keeps-shifted outer d f h
    keeps-shifted outer d (all_of fs) h = all_keep-shifted outer d fs h
    keeps-shifted outer d (any_of fs) h = all_keep-shifted outer d fs h
    keeps-shifted outer d (implies f g) h = rw (keeps-shifted outer d f h, keeps-shifted outer d g h) refl
    keeps-shifted outer d (iff f g) h = rw (keeps-shifted outer d f h, keeps-shifted outer d g h) refl
    keeps-shifted outer d (for_all s f) h = keeps-shifted (pos 0 ∷ outer) (suc d) f (omega (arith, h))
    keeps-shifted outer d (exists s f) h = keeps-shifted (pos 0 ∷ outer) (suc d) f (omega (arith, h))

    all_keep-shifted : (outer : List ℤ) (d : ℕ) (fs : Formulas) → d < length outer → all_keep universe (outer ++ (new ++ env)) d (shifted_each (length outer) (length new) fs) ≡ all_keep universe (outer ++ env) d fs
    all_keep-shifted outer d no_formulas h = refl
    all_keep-shifted outer d (formula f fs) h = rw (keeps-shifted outer d f h, all_keep-shifted outer d fs h) refl

  pub kept_values-shifted : (outer : List ℤ) (s : ℕ) (f : Formula) → kept_values universe (outer ++ (new ++ env)) s (shifted (suc (length outer)) (length new) f) ≡ kept_values universe (outer ++ env) s f
  kept_values-shifted outer s f = ap (λ test. filter test (domain universe s)) (fun_ext (λ v. keeps-shifted (v ∷ outer) 0 f (omega arith)))

  mutual
    -- the truth of a shifted formula, with values put in, is its truth
    pub truth-shifted : (outer : List ℤ) (f : Formula) → truth universe m (outer ++ (new ++ env)) (shifted (length outer) (length new) f) ≡ truth universe m (outer ++ env) f
    truth-shifted outer verum = refl
    truth-shifted outer falsum = refl
    truth-shifted outer (atom p ts) = ap (m p) (values-shifted outer ts)
    truth-shifted outer (equal a b) = rw (value-shifted outer a, value-shifted outer b) refl
    truth-shifted outer (less a b) = rw (value-shifted outer a, value-shifted outer b) refl
    truth-shifted outer (negation f) = ap not (truth-shifted outer f)
    truth-shifted outer (all_of fs) = all_true-shifted outer fs
    truth-shifted outer (any_of fs) = any_true-shifted outer fs
    truth-shifted outer (implies f g) = rw (truth-shifted outer f, truth-shifted outer g) refl
    truth-shifted outer (iff f g) = rw (truth-shifted outer f, truth-shifted outer g) refl
    truth-shifted outer (for_all s f) =
        rw (kept_values-shifted outer s f) (ap (λ test. list_all test (kept_values universe (outer ++ env) s f)) (fun_ext (λ v. truth-shifted (v ∷ outer) f)))
    truth-shifted outer (exists s f) =
        rw (kept_values-shifted outer s f) (ap (λ test. list_any test (kept_values universe (outer ++ env) s f)) (fun_ext (λ v. truth-shifted (v ∷ outer) f)))

    all_true-shifted : (outer : List ℤ) (fs : Formulas) → all_true universe m (outer ++ (new ++ env)) (shifted_each (length outer) (length new) fs) ≡ all_true universe m (outer ++ env) fs
    all_true-shifted outer no_formulas = refl
    all_true-shifted outer (formula f fs) = rw (truth-shifted outer f, all_true-shifted outer fs) refl

    any_true-shifted : (outer : List ℤ) (fs : Formulas) → any_true universe m (outer ++ (new ++ env)) (shifted_each (length outer) (length new) fs) ≡ any_true universe m (outer ++ env) fs
    any_true-shifted outer no_formulas = refl
    any_true-shifted outer (formula f fs) = rw (truth-shifted outer f, any_true-shifted outer fs) refl

pub shifted_keeps_truth : (from by : ℕ) (f : Formula) → KeepsTruth from by f (shifted from by f)
shifted_keeps_truth from by f universe m outer new env o n = rw (← o, ← n) (truth-shifted universe m new env outer f)

pub shifted_keeps_places : (from by : ℕ) (f : Formula) → KeepsPlaces from by f (shifted from by f)
shifted_keeps_places from by f universe outer new env d o n h = let k : d < length outer = rw o h in rw (← o, ← n) (keeps-shifted universe (λ p vs. false) new env outer d f k)

-- ---- shifted twice

shifted_variable_twice : (a b k : ℕ) → shifted_variable 0 a (shifted_variable 0 b k) ≡ shifted_variable 0 (b + a) k
shifted_variable_twice a b k = grind (arith, nat_tests)

mutual
  pub shifted_term_twice : (a b : ℕ) (t : Term) → shifted_term 0 a (shifted_term 0 b t) ≡ shifted_term 0 (b + a) t
  shifted_term_twice a b (variable k) = ap variable (shifted_variable_twice a b k)
  shifted_term_twice a b (int z) = refl
  shifted_term_twice a b (constant c) = refl
  shifted_term_twice a b (event s ts) = ap (event s) (shifted_terms_twice a b ts)
  shifted_term_twice a b (fluent s ts) = ap (fluent s) (shifted_terms_twice a b ts)
  shifted_term_twice a b (sum x y) = rw (shifted_term_twice a b x, shifted_term_twice a b y) refl
  shifted_term_twice a b (difference x y) = rw (shifted_term_twice a b x, shifted_term_twice a b y) refl
  shifted_term_twice a b (product x y) = rw (shifted_term_twice a b x, shifted_term_twice a b y) refl

  shifted_terms_twice : (a b : ℕ) (ts : Terms) → shifted_terms 0 a (shifted_terms 0 b ts) ≡ shifted_terms 0 (b + a) ts
  shifted_terms_twice a b no_terms = refl
  shifted_terms_twice a b (term t ts) = rw (shifted_term_twice a b t, shifted_terms_twice a b ts) refl

shifted_variable_by_none : (k : ℕ) → shifted_variable 0 0 k ≡ k
shifted_variable_by_none k = grind (arith, nat_tests)

mutual
  pub shifted_term_by_none : (t : Term) → shifted_term 0 0 t ≡ t
  shifted_term_by_none (variable k) = ap variable (shifted_variable_by_none k)
  shifted_term_by_none (int z) = refl
  shifted_term_by_none (constant c) = refl
  shifted_term_by_none (event s ts) = ap (event s) (shifted_terms_by_none ts)
  shifted_term_by_none (fluent s ts) = ap (fluent s) (shifted_terms_by_none ts)
  shifted_term_by_none (sum x y) = rw (shifted_term_by_none x, shifted_term_by_none y) refl
  shifted_term_by_none (difference x y) = rw (shifted_term_by_none x, shifted_term_by_none y) refl
  shifted_term_by_none (product x y) = rw (shifted_term_by_none x, shifted_term_by_none y) refl

  shifted_terms_by_none : (ts : Terms) → shifted_terms 0 0 ts ≡ ts
  shifted_terms_by_none no_terms = refl
  shifted_terms_by_none (term t ts) = rw (shifted_term_by_none t, shifted_terms_by_none ts) refl

-- ---- room in 32 bits

mutual
  pub reach_can_shift : (by : ℕ) (t : Term) → reach t + by ≤ 2 ^ 32 → CanShiftTerm 0 by t
  reach_can_shift by (variable k) h = let e : shifted_variable 0 by k ≡ k + by = grind (arith, nat_tests) in rw e (omega (arith, h))
  reach_can_shift by (int z) h = tt
  reach_can_shift by (constant c) h = tt
  reach_can_shift by (event s ts) h = reaches_can_shift by ts h
  reach_can_shift by (fluent s ts) h = reaches_can_shift by ts h
  reach_can_shift by (sum x y) h = (reach_can_shift by x (omega (arith, h)), reach_can_shift by y (omega (arith, h)))
  reach_can_shift by (difference x y) h = (reach_can_shift by x (omega (arith, h)), reach_can_shift by y (omega (arith, h)))
  reach_can_shift by (product x y) h = (reach_can_shift by x (omega (arith, h)), reach_can_shift by y (omega (arith, h)))

  reaches_can_shift : (by : ℕ) (ts : Terms) → reach_of ts + by ≤ 2 ^ 32 → CanShiftTerms 0 by ts
  reaches_can_shift by no_terms h = tt
  reaches_can_shift by (term t ts) h = (reach_can_shift by t (omega (arith, h)), reaches_can_shift by ts (omega (arith, h)))
