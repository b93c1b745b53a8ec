-- What a call of the program is to put and to write, and what it put and wrote.
use Rattle.std.specs.Prelude.{ℕ, ◌≡◌, ◌⊎◌, Bool, List, Option, Some, None, codes}
use Rattle.ec_clause.specs.declared.ending.Ending.TheVariants.{Complete, Models, Conflicts}
use Rattle.ec_logic.specs.Theory.{Theory}
use Rattle.ec_edge.specs.Causes.{Rose}
use Rattle.ec_engine.specs.Refusals.{refusal_line}
use Rattle.ec_engine.specs.Sent.{Sent, SentPart, SentNothing}
use Rattle.ec_syntax.specs.declared.book.Refusal.{Refusal}
use Rattle.ec_solve.specs.declared.searching.Bounds.{Bounds}
use Rattle.ec_evidence.specs.declared.finding.Reason.{Reason}
use Rattle.ec_engine.specs.declared.checking.CheckEnd.TheVariants as check
use Rattle.ec_engine.specs.declared.listing.ListEnd.TheVariants as list
use Rattle.ec_engine.specs.declared.showing.Counts.{Counts}
use Rattle.ec_engine.specs.declared.showing.ShowEnd.TheVariants as show
use Rattle.ec_engine.specs.declared.solving.SolveEnd.TheVariants as solve
use Rattle.ec_engine.specs.Check.{IsCheckDue}
use Rattle.ec_engine.specs.List.{IsDue}
use Rattle.ec_engine.specs.Show.{IsShowDue}
use Rattle.ec_engine.specs.Solve.{CanComplete, IsSolvable, IsSolveDue, WritesPrefix}
use Rattle.ec_command.specs.declared.status.Status.{Status}
use Rattle.ec_command.specs.declared.status.Status.TheVariants as status
use Rattle.ec_command.specs.declared.words.Job.{Job}
use Rattle.ec_command.specs.declared.words.Job.TheVariants as job
use Rattle.ec_command.specs.Faults.{Stops}
use Rattle.ec_command.specs.Sample.{IsSampleName}
use Rattle.ec_command.specs.SampleRun.{IsSampleDue}
use Rattle.ec_command.specs.Words.{job_of}

-- the text that is due for words that are no job
abbrev pub usage_text : List ℕ
usage_text = codes "usage\n"

-- The status and the text that are due for these words, where the names held this, and what the log of a solve job, or the three names of a sample, are to hold then, among what the names hold.
pub data IsDueFor (words : List (List ℕ)) (held holds : List ℕ → Option (List ℕ)) : Status → List ℕ → Type 0 where
  usage : job_of words ≡ None → IsDueFor words held holds status.Usage usage_text
  listed : (file : List ℕ) (count : ℕ) (text : List ℕ) → job_of words ≡ Some (job.List file) → IsDue held file (list.Complete count) text
      → IsDueFor words held holds status.Complete text
  list_refused : (file : List ℕ) (refusal : Refusal) (text : List ℕ) → job_of words ≡ Some (job.List file) → IsDue held file (list.Refused refusal) text
      → IsDueFor words held holds status.Refused text
  solved : (file log : List ℕ) (bounds : Bounds) (count : ℕ) (text : List ℕ) → job_of words ≡ Some (job.Solve file log bounds)
      → IsSolveDue held file log bounds (solve.Done (Complete count)) text (holds log) → IsDueFor words held holds status.Complete text
  limited_by_models : (file log : List ℕ) (bounds : Bounds) (most : ℕ) (text : List ℕ) → job_of words ≡ Some (job.Solve file log bounds)
      → IsSolveDue held file log bounds (solve.Done (Models most)) text (holds log) → IsDueFor words held holds status.Limit text
  limited_by_conflicts : (file log : List ℕ) (bounds : Bounds) (most : ℕ) (text : List ℕ) → job_of words ≡ Some (job.Solve file log bounds)
      → IsSolveDue held file log bounds (solve.Done (Conflicts most)) text (holds log) → IsDueFor words held holds status.Limit text
  solve_refused : (file log : List ℕ) (bounds : Bounds) (refusal : Refusal) (text : List ℕ) → job_of words ≡ Some (job.Solve file log bounds)
      → IsSolveDue held file log bounds (solve.Refused refusal) text (holds log) → IsDueFor words held holds status.Refused text
  checked : (file list log : List ℕ) (count : ℕ) (text : List ℕ) → job_of words ≡ Some (job.Check file list log)
      → IsCheckDue held file list log (check.Yes (Complete count)) text → IsDueFor words held holds status.Complete text
  checked_to_models : (file list log : List ℕ) (most : ℕ) (text : List ℕ) → job_of words ≡ Some (job.Check file list log)
      → IsCheckDue held file list log (check.Yes (Models most)) text → IsDueFor words held holds status.Limit text
  checked_to_conflicts : (file list log : List ℕ) (most : ℕ) (text : List ℕ) → job_of words ≡ Some (job.Check file list log)
      → IsCheckDue held file list log (check.Yes (Conflicts most)) text → IsDueFor words held holds status.Limit text
  not_shown : (file list log : List ℕ) (why : Reason) (text : List ℕ) → job_of words ≡ Some (job.Check file list log)
      → IsCheckDue held file list log (check.No why) text → IsDueFor words held holds status.No text
  check_refused : (file list log : List ℕ) (refusal : Refusal) (text : List ℕ) → job_of words ≡ Some (job.Check file list log)
      → IsCheckDue held file list log (check.Refused refusal) text → IsDueFor words held holds status.Refused text
  shown : (file : List ℕ) (counts : Counts) (text : List ℕ) → job_of words ≡ Some (job.Show file) → IsShowDue held file (show.Shown counts) text
      → IsDueFor words held holds status.Complete text
  show_refused : (file : List ℕ) (refusal : Refusal) (text : List ℕ) → job_of words ≡ Some (job.Show file) → IsShowDue held file (show.Refused refusal) text
      → IsDueFor words held holds status.Refused text
  sampled : (n : ℕ) (answered : Status) (text : List ℕ) → job_of words ≡ Some (job.Sample n) → IsSampleDue n holds answered text → IsDueFor words held holds answered text

-- The text that is due with the status was put, and the log of a solve job, or the names of a sample, hold what is due with it.
pub record Puts (words : List (List ℕ)) (held holds : List ℕ → Option (List ℕ)) (told : Bool) (before after : List ℕ) (answered : Status) : Type 0 where
  pub text : List ℕ
  pub due : IsDueFor words held holds answered text
  pub put : Sent told text before after

-- A prefix of a text that is due was put, and the log of a solve job, or the names of a sample, hold what is due with that text.
pub record PutsPart (words : List (List ℕ)) (held holds : List ℕ → Option (List ℕ)) (told : Bool) (before after : List ℕ) : Type 0 where
  pub answered : Status
  pub text : List ℕ
  pub due : IsDueFor words held holds answered text
  pub put : SentPart told text before after

-- Nothing was put, and the log of a solve job holds what it held, or a prefix of a log that is due; the names of a sample hold what they may where it stops. Of a name that was lost, nothing is said.
pub record PutsNothing (words : List (List ℕ)) (held holds : List ℕ → Option (List ℕ)) (told : Bool) (before after : List ℕ) (lost : Type 0) : Type 0 where
  pub same : SentNothing told before after
  pub log_part : (file log : List ℕ) (bounds : Bounds) → job_of words ≡ Some (job.Solve file log bounds) → lost ⊎ (holds log ≡ held log) ⊎ WritesPrefix held file log bounds (holds log)
  pub sample_part : (n : ℕ) → job_of words ≡ Some (job.Sample n) → Stops n held holds lost

-- The line of a refusal was put, and one that says that a file isn't there only where the absences rose.
pub record PutsRefusal (told : Bool) (before after : List ℕ) (absences_before absences_after : ℕ) : Type 0 where
  pub refusal : Refusal
  pub put : Sent told (refusal_line refusal) before after
  pub absent : refusal.code ≡ 1 → Rose absences_before absences_after

-- the names that a job writes: the log of a search, and the three names of a sample
abbrev pub Writes : Option Job → List ℕ → Type 0
Writes (Some (job.Solve file log bounds)) name = name ≡ log
Writes (Some (job.Sample n)) name = IsSampleName name
Writes (Some (job.List file)) name = ⊥
Writes (Some (job.Check file list log)) name = ⊥
Writes (Some (job.Show file)) name = ⊥
Writes None name = ⊥

-- The answers to words that are no job, and what was put with each, whatever the files hold.
abbrev pub IsNoJobAnswer : Bool → List ℕ → List ℕ → Status → Type 0
IsNoJobAnswer told before after status.Complete = ⊥
IsNoJobAnswer told before after status.Limit = ⊥
IsNoJobAnswer told before after status.Refused = ⊥
IsNoJobAnswer told before after status.No = ⊥
IsNoJobAnswer told before after status.FilesFault = ⊥
IsNoJobAnswer told before after status.OutFault = SentPart told usage_text before after
IsNoJobAnswer told before after status.Usage = Sent told usage_text before after
IsNoJobAnswer told before after status.NoMemory = SentPart told usage_text before after

-- the whole list was put, unless something failed
abbrev pub IsWholeAnswer : Status → Type 0
IsWholeAnswer status.Complete = Unit {0}
IsWholeAnswer status.Limit = ⊥
IsWholeAnswer status.Refused = ⊥
IsWholeAnswer status.No = ⊥
IsWholeAnswer status.FilesFault = Unit {0}
IsWholeAnswer status.OutFault = Unit {0}
IsWholeAnswer status.Usage = ⊥
IsWholeAnswer status.NoMemory = Unit {0}

-- A search over these words that can come to its end within its bounds does so, unless something fails.
pub record Completes (words : List (List ℕ)) (held : List ℕ → Option (List ℕ)) (answered : Status) : Type 0 where
  pub whole : (file log : List ℕ) (bounds : Bounds) (theory : Theory) → job_of words ≡ Some (job.Solve file log bounds) → IsSolvable held file log bounds theory → CanComplete bounds theory → IsWholeAnswer answered

-- The status that is due for these words and what the names held, what the log of a solve job or the names of a sample hold with it, and what was put where the sink tells its bytes. Where a start failed, nothing is said of its name.
abbrev pub IsRun : List (List ℕ) → (List ℕ → Option (List ℕ)) → (List ℕ → Option (List ℕ)) → Bool → List ℕ → List ℕ → Type 0 → Status → Type 0
IsRun words held holds told before after start_failed status.Complete = Puts words held holds told before after status.Complete
IsRun words held holds told before after start_failed status.Limit = Puts words held holds told before after status.Limit
IsRun words held holds told before after start_failed status.Refused = Puts words held holds told before after status.Refused
IsRun words held holds told before after start_failed status.No = Puts words held holds told before after status.No
IsRun words held holds told before after start_failed status.FilesFault = PutsNothing words held holds told before after start_failed
IsRun words held holds told before after start_failed status.OutFault = PutsPart words held holds told before after
IsRun words held holds told before after start_failed status.Usage = Puts words held holds told before after status.Usage
IsRun words held holds told before after start_failed status.NoMemory = PutsNothing words held holds told before after ⊥ ⊎ PutsPart words held holds told before after
