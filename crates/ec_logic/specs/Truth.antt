-- Structures, and the truth of a formula in a structure.
use Rattle.std.specs.Prelude.{ℕ, ◌≡◌, ◌<◌, ℤ, Bool, true, false, not, ◌&&◌, ◌||◌, if◌then◌else◌, List, ◌∷◌, length, Some, int_lt}
use Rattle.std.specs.List.{list_all, list_any}
use Rattle.std.specs.Ordering.{int_eq}
use Rattle.ec_logic.specs.Tree.{Formula, verum, falsum, atom, equal, less, negation, all_of, any_of, implies, iff, for_all, exists, Formulas, no_formulas, formula}
use Rattle.ec_logic.specs.Universe.{Universe, row_of, tuple_rank}
use Rattle.ec_logic.specs.Value.{value, values}
use Rattle.ec_logic.specs.Place.{kept_values}

-- A structure says of each predicate and tuple whether the predicate has the tuple.
abbrev pub Structure : Type 0
Structure = ℕ → List ℤ → Bool

-- a tuple of the domains of a predicate's arguments
abbrev pub IsTuple : Universe → ℕ → List ℤ → Type 0
IsTuple universe p vs = (p < length universe.predicates) × ((k : ℕ) × (tuple_rank universe (row_of universe.predicates p) vs ≡ Some k))

-- a structure has tuples of its predicates' domains alone
abbrev pub IsStructure : Universe → Structure → Type 0
IsStructure universe m = (p : ℕ) (vs : List ℤ) → m p vs ≡ true → IsTuple universe p vs

-- Whether a formula is true, where the values of the open binders are given, the innermost first.
abbrev mutual
  pub truth : Universe → Structure → List ℤ → Formula → Bool
  truth universe m env verum = true
  truth universe m env falsum = false
  truth universe m env (atom p ts) = m p (values universe env ts)
  truth universe m env (equal a b) = int_eq (value universe env a) (value universe env b)
  truth universe m env (less a b) = int_lt (value universe env a) (value universe env b)
  truth universe m env (negation f) = not (truth universe m env f)
  truth universe m env (all_of fs) = all_true universe m env fs
  truth universe m env (any_of fs) = any_true universe m env fs
  truth universe m env (implies f g) = not (truth universe m env f) || truth universe m env g
  truth universe m env (iff f g) = if truth universe m env f then truth universe m env g else not (truth universe m env g)
  truth universe m env (for_all s f) = list_all (λ v. truth universe m (v ∷ env) f) (kept_values universe env s f)
  truth universe m env (exists s f) = list_any (λ v. truth universe m (v ∷ env) f) (kept_values universe env s f)

  pub all_true : Universe → Structure → List ℤ → Formulas → Bool
  all_true universe m env no_formulas = true
  all_true universe m env (formula f fs) = truth universe m env f && all_true universe m env fs

  pub any_true : Universe → Structure → List ℤ → Formulas → Bool
  any_true universe m env no_formulas = false
  any_true universe m env (formula f fs) = truth universe m env f || any_true universe m env fs
