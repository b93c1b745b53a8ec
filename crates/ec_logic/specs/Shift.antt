-- Formulas under more binders.
use Rattle.std.specs.Prelude.{ℕ, suc, ◌≡◌, ◌+◌, ◌<◌, nat_lt, if◌then◌else◌, ℤ, List, ◌++◌, length}
use Rattle.ec_logic.specs.Tree.{Term, variable, int, constant, event, fluent, sum, difference, product, Terms, no_terms, term, Formula, verum, falsum, atom, equal, less, negation, all_of, any_of, implies, iff, for_all, exists, Formulas, no_formulas, formula}
use Rattle.ec_logic.specs.Universe.{Universe}
use Rattle.ec_logic.specs.Place.{keeps}
use Rattle.ec_logic.specs.Truth.{Structure, truth}

-- a variable, raised where it is one of those from a number on
abbrev pub shifted_variable : ℕ → ℕ → ℕ → ℕ
shifted_variable from by k = if nat_lt k from then k else k + by

abbrev mutual
  pub shifted_term : ℕ → ℕ → Term → Term
  shifted_term from by (variable k) = variable (shifted_variable from by k)
  shifted_term from by (int z) = int z
  shifted_term from by (constant c) = constant c
  shifted_term from by (event s ts) = event s (shifted_terms from by ts)
  shifted_term from by (fluent s ts) = fluent s (shifted_terms from by ts)
  shifted_term from by (sum a b) = sum (shifted_term from by a) (shifted_term from by b)
  shifted_term from by (difference a b) = difference (shifted_term from by a) (shifted_term from by b)
  shifted_term from by (product a b) = product (shifted_term from by a) (shifted_term from by b)

  pub shifted_terms : ℕ → ℕ → Terms → Terms
  shifted_terms from by no_terms = no_terms
  shifted_terms from by (term t ts) = term (shifted_term from by t) (shifted_terms from by ts)

-- a formula whose free variables from a number on are raised
abbrev mutual
  pub shifted : ℕ → ℕ → Formula → Formula
  shifted from by verum = verum
  shifted from by falsum = falsum
  shifted from by (atom p ts) = atom p (shifted_terms from by ts)
  shifted from by (equal a b) = equal (shifted_term from by a) (shifted_term from by b)
  shifted from by (less a b) = less (shifted_term from by a) (shifted_term from by b)
  shifted from by (negation f) = negation (shifted from by f)
  shifted from by (all_of fs) = all_of (shifted_each from by fs)
  shifted from by (any_of fs) = any_of (shifted_each from by fs)
  shifted from by (implies f g) = implies (shifted from by f) (shifted from by g)
  shifted from by (iff f g) = iff (shifted from by f) (shifted from by g)
  shifted from by (for_all s f) = for_all s (shifted (suc from) by f)
  shifted from by (exists s f) = exists s (shifted (suc from) by f)

  pub shifted_each : ℕ → ℕ → Formulas → Formulas
  shifted_each from by no_formulas = no_formulas
  shifted_each from by (formula f fs) = formula (shifted from by f) (shifted_each from by fs)

-- ---- what is true of a shifted formula

-- The one formula is true with new values put in at a place exactly where the other is true without them.
abbrev pub KeepsTruth : ℕ → ℕ → Formula → Formula → Type 0
KeepsTruth from by f g = (universe : Universe) (m : Structure) (outer new env : List ℤ) → length outer ≡ from → length new ≡ by → truth universe m (outer ++ (new ++ env)) g ≡ truth universe m (outer ++ env) f

-- A binder of an outer value owns the same places in both, and the same values keep them in range.
abbrev pub KeepsPlaces : ℕ → ℕ → Formula → Formula → Type 0
KeepsPlaces from by f g = (universe : Universe) (outer new env : List ℤ) (d : ℕ) → length outer ≡ from → length new ≡ by → d < from → keeps universe (outer ++ (new ++ env)) d g ≡ keeps universe (outer ++ env) d f
