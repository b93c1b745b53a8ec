-- The counts of what reaches outside the process.
use Rattle.std.specs.Prelude.{ℕ}

-- how often files failed, how often a name was not there, and how often a start failed
pub record FileCounts : Type 0 where
  pub faults : ℕ
  pub absences : ℕ
  pub failed_starts : ℕ
