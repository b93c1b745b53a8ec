-- How the run of a sample ends, and what it put and wrote.
use Rattle.std.specs.Prelude.{ℕ, ◌≡◌, ◌⊎◌, Bool, List}
use Rattle.ec_clause.specs.declared.ending.Ending.{Ending}
use Rattle.ec_engine.specs.Sent.{Sent, SentPart, SentNothing}
use Rattle.ec_engine.specs.declared.solving.SolveEnd.TheVariants as solve
use Rattle.ec_command.specs.Ends.{solve_status}
use Rattle.ec_command.specs.Faults.{Stops}
use Rattle.ec_command.specs.Sample.{Held, IsSampled}
use Rattle.ec_command.specs.declared.status.Status.{Status}
use Rattle.ec_command.specs.declared.status.Status.TheVariants as status

-- The status of a sample is that of its search, and its text the report.
pub record IsSampleDue (n : ℕ) (holds : Held) (answered : Status) (text : List ℕ) : Type 0 where
  pub ending : Ending
  pub sampled : IsSampled n holds ending text
  pub ends : answered ≡ solve_status (solve.Done ending)

-- The report was put.
pub record PutsReport (n : ℕ) (holds : Held) (told : Bool) (before after : List ℕ) (answered : Status) : Type 0 where
  pub text : List ℕ
  pub due : IsSampleDue n holds answered text
  pub put : Sent told text before after

-- A prefix of the report was put.
pub record PutsReportPart (n : ℕ) (holds : Held) (told : Bool) (before after : List ℕ) : Type 0 where
  pub answered : Status
  pub text : List ℕ
  pub due : IsSampleDue n holds answered text
  pub put : SentPart told text before after

-- Nothing was put, and the names hold what they may where the work stops.
pub record PutsNoReport (n : ℕ) (held holds : Held) (told : Bool) (before after : List ℕ) (lost : Type 0) : Type 0 where
  pub same : SentNothing told before after
  pub stops : Stops n held holds lost

-- The status of the run of a sample, what its names hold with it, and what was put where the sink tells its bytes. Where a start failed, nothing is said of its name.
abbrev pub IsSampleRun : ℕ → Held → Held → Bool → List ℕ → List ℕ → Type 0 → Status → Type 0
IsSampleRun n held holds told before after start_failed status.Complete = PutsReport n holds told before after status.Complete
IsSampleRun n held holds told before after start_failed status.Limit = PutsReport n holds told before after status.Limit
IsSampleRun n held holds told before after start_failed status.Refused = ⊥
IsSampleRun n held holds told before after start_failed status.No = ⊥
IsSampleRun n held holds told before after start_failed status.FilesFault = PutsNoReport n held holds told before after start_failed
IsSampleRun n held holds told before after start_failed status.OutFault = PutsReportPart n holds told before after
IsSampleRun n held holds told before after start_failed status.Usage = ⊥
IsSampleRun n held holds told before after start_failed status.NoMemory = PutsNoReport n held holds told before after ⊥ ⊎ PutsReportPart n holds told before after
