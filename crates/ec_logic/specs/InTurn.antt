-- The truth of a binder's scope, turn by turn.
use Rattle.std.specs.Prelude.{ℤ, Bool, if◌then◌else◌, List, ◌∷◌, Option, Some, None}
use Rattle.ec_logic.specs.Tree.{Formula}
use Rattle.ec_logic.specs.Universe.{Universe}
use Rattle.ec_logic.specs.Place.{keeps}
use Rattle.ec_logic.specs.Truth.{Structure, truth}

-- the truth of the scope at a value, or a truth of its own where the binder doesn't range over it
abbrev pub truth_or : Universe → Structure → List ℤ → Formula → Bool → ℤ → Bool
truth_or universe m env f outside v = if keeps universe (v ∷ env) 0 f then truth universe m (v ∷ env) f else outside

-- the same at a turn
abbrev pub truth_in_turn : Universe → Structure → List ℤ → Formula → Bool → Option ℤ → Bool
truth_in_turn universe m env f outside None = outside
truth_in_turn universe m env f outside (Some v) = truth_or universe m env f outside v
