-- how a search ended
use Rattle.std.specs.Prelude.{ℕ, Bool, true, false}
use Rattle.ec_clause.specs.declared.ending.Ending.{Ending}
use Rattle.ec_clause.specs.declared.ending.Ending.TheVariants.{Complete, Models, Conflicts}

-- the number of models found, or the bound that was reached
abbrev pub number_of : Ending → ℕ
number_of (Complete n) = n
number_of (Models n) = n
number_of (Conflicts n) = n

-- no model is left to be found
abbrev pub is_complete : Ending → Bool
is_complete (Complete n) = true
is_complete (Models n) = false
is_complete (Conflicts n) = false
