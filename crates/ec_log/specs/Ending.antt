-- How an ending is told: the last line of a list, and of a log.
use Rattle.std.specs.Prelude.{ℕ, ◌^◌, ◌≤◌, ◌<◌, List, ◌++◌, codes, decimal}
use Rattle.ec_clause.specs.declared.ending.Ending.{Ending}
use Rattle.ec_clause.specs.declared.ending.Ending.TheVariants.{Complete, Models, Conflicts}

-- the words of an ending, with its number
abbrev pub ending_text : Ending → List ℕ
ending_text (Complete n) = codes "complete: " ++ decimal n
ending_text (Models n) = codes "limit: models " ++ decimal n
ending_text (Conflicts n) = codes "limit: conflicts " ++ decimal n

-- the numbers that an ending may have: that of a limit is at least 1
abbrev pub IsEnding : Ending → Type 0
IsEnding (Complete n) = n < 2 ^ 64
IsEnding (Models n) = (1 ≤ n) × (n < 2 ^ 64)
IsEnding (Conflicts n) = (1 ≤ n) × (n < 2 ^ 64)
