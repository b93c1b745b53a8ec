-- What files and sinks in memory hold, the calls on them, and their counts.
use Rattle.std.specs.Prelude.{ℕ, List, [], ◌/◌, length, take, Result, Ok, Err}
use Rattle.ec_edge.specs.declared.fault.FileFault.{FileFault}
use Rattle.ec_edge.specs.declared.fault.FileFault.TheVariants as file
use Rattle.ec_edge.specs.declared.fault.SinkFault.{SinkFault}
use Rattle.ec_edge.specs.declared.fault.SinkFault.TheVariants as sink
use Rattle.ec_edge.specs.Causes.{raised}
use Rattle.ec_edge.specs.Plan.{CallPlan, no_calls}

-- the first half of a piece, rounded down
abbrev pub first_half : List ℕ → List ℕ
first_half piece = take (length piece / 2) piece

-- the calls on files of each kind, and the three counts
pub record FilesTally : Type 0 where
  pub pieces : CallPlan
  pub starts : CallPlan
  pub appends : CallPlan
  pub faults : ℕ
  pub absences : ℕ
  pub failed_starts : ℕ

-- the tally of new files
abbrev pub no_tally : FilesTally
no_tally = record { pieces = no_calls; starts = no_calls; appends = no_calls; faults = 0; absences = 0; failed_starts = 0 }

-- the tally once a call was answered: a failure raises the faults, an absence the absences
abbrev pub tallied : {T : Type 0} → FilesTally → Result T FileFault → FilesTally
tallied tally (Ok _) = tally
tallied tally (Err file.Absent) = record tally { absences = raised tally.absences }
tallied tally (Err file.Failed) = record tally { faults = raised tally.faults }
tallied tally (Err file.Memory) = tally

-- the count of failed starts once a call of `start` was answered: a failure raises it
abbrev pub failed_starts_after : ℕ → Result (Unit {0}) FileFault → ℕ
failed_starts_after count (Ok _) = count
failed_starts_after count (Err file.Absent) = count
failed_starts_after count (Err file.Failed) = raised count
failed_starts_after count (Err file.Memory) = count

-- the tally once a call of `start` was answered
abbrev pub tallied_start : FilesTally → Result (Unit {0}) FileFault → FilesTally
tallied_start tally result = record (tallied tally result) { failed_starts = failed_starts_after tally.failed_starts result }

-- what a sink in memory has, the calls of `put`, and the count of its faults
pub record SinkState : Type 0 where
  pub bytes : List ℕ
  pub puts : CallPlan
  pub faults : ℕ

-- the state of a new sink
abbrev pub new_sink : SinkState
new_sink = record { bytes = []; puts = no_calls; faults = 0 }

-- the count of faults once a call was answered: a failure raises it
abbrev pub faults_after : ℕ → Result (Unit {0}) SinkFault → ℕ
faults_after faults (Ok _) = faults
faults_after faults (Err sink.Failed) = raised faults
faults_after faults (Err sink.Memory) = faults
