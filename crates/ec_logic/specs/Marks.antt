-- Sets of atoms that are put together from the atoms that sentences support.
use Rattle.std.specs.Prelude.{ℕ, ◌≡◌, ◌==◌, ◌||◌, ◌&&◌, ℤ, Bool, false, if◌then◌else◌, List, ◌∷◌, Option, None, Some}
use Rattle.ec_logic.specs.Tree.{Formula, Formulas}
use Rattle.ec_logic.specs.Universe.{Universe}
use Rattle.ec_logic.specs.Value.{same_values}
use Rattle.ec_logic.specs.Place.{keeps}
use Rattle.ec_logic.specs.Truth.{Structure, IsTuple}
use Rattle.ec_logic.specs.ClauseTree.{supports, one_supports}

-- One structure has, of the tuples of the domains, those of another and those that pass a test.
pub record Joins (universe : Universe) (test : ℕ → List ℤ → Bool) (old new : Structure) : Type 0 where
  pub joined : (p : ℕ) (vs : List ℤ) → IsTuple universe p vs → new p vs ≡ (old p vs || test p vs)

-- whether this is that tuple of that predicate
abbrev pub is_tuple : ℕ → List ℤ → ℕ → List ℤ → Bool
is_tuple q us p vs = (q == p) && same_values us vs

abbrev pub supported_by : Universe → Structure → List ℤ → Formula → ℕ → List ℤ → Bool
supported_by universe m env f p vs = supports universe m p vs env f

abbrev pub supported_by_one : Universe → Structure → List ℤ → Formulas → ℕ → List ℤ → Bool
supported_by_one universe m env fs p vs = one_supports universe m p vs env fs

-- what is supported under a value of a binder, where the binder ranges over it
abbrev pub supported_under : Universe → Structure → List ℤ → Formula → ℤ → ℕ → List ℤ → Bool
supported_under universe m env f v p vs = if keeps universe (v ∷ env) 0 f then supports universe m p vs (v ∷ env) f else false

-- the same at a turn of the binder
abbrev pub supported_in_turn : Universe → Structure → List ℤ → Formula → Option ℤ → ℕ → List ℤ → Bool
supported_in_turn universe m env f None p vs = false
supported_in_turn universe m env f (Some v) p vs = supported_under universe m env f v p vs
