-- What each stage of the run of a sample leaves, for the clauses of the stages.
use Rattle.std.specs.Prelude.{ℕ, ◌≡◌, List, Ok}
use Rattle.ec_clause.specs.declared.ending.Ending.{Ending}
use Rattle.ec_logic.specs.Theory.{Theory}
use Rattle.ec_weight.specs.Weight.{weight_of}
use Rattle.ec_accept.specs.Accepted.{IsAccepted, visible_count}
use Rattle.ec_engine.specs.declared.checking.CheckEnd.{CheckEnd}
use Rattle.ec_engine.specs.Check.{IsCheckDue}
use Rattle.ec_command.specs.Faults.{Stops}
use Rattle.ec_command.specs.Sample.{Held, sample_file, sample_list, sample_log, IsMade, IsSolvedSample, IsListedSample}
use Rattle.ec_command.specs.declared.making.Stop.{Stop}
use Rattle.ec_command.specs.declared.making.Stop.TheVariants as stop
use Rattle.ec_command.specs.declared.sampling.Sampled.{Sampled}
use Rattle.ec_command.specs.declared.sampling.Size.{Size}

-- The file was made, and the other two names hold what they held.
pub record HasMade (n : ℕ) (held holds : Held) : Type 0 where
  pub made : IsMade n holds
  pub log : holds sample_log ≡ held sample_log
  pub list : holds sample_list ≡ held sample_list

-- The size is that of the theory that the text of the number has, whatever else is held.
pub record IsSize (n : ℕ) (size : Size) : Type 0 where
  pub theory : Theory
  pub accepted : (holds : Held) → IsMade n holds → IsAccepted holds sample_file (Ok theory)
  pub weight : size.weight ≡ weight_of theory
  pub atoms : size.atoms ≡ visible_count theory

-- The file was made and solved, and the name of the list holds what it held.
pub record HasSolved (n : ℕ) (held holds : Held) (ending : Ending) (text : List ℕ) : Type 0 where
  pub solved : IsSolvedSample n holds ending text
  pub list : holds sample_list ≡ held sample_list

-- The file, the list and the log were checked, and this was put.
pub record HasChecked (n : ℕ) (holds : Held) (ending : Ending) (text verdict : List ℕ) : Type 0 where
  pub listed : IsListedSample n holds ending text
  pub answer : CheckEnd
  pub due : IsCheckDue holds sample_file sample_list sample_log answer verdict

-- Why a stage ended the run: a fault of the files, or want of memory, by which no name is lost. A refusal there is not.
abbrev pub IsStop : ℕ → Held → Held → Type 0 → Stop → Type 0
IsStop n held holds lost (stop.Refused refusal) = ⊥
IsStop n held holds lost stop.Files = Stops n held holds lost
IsStop n held holds lost stop.Memory = Stops n held holds ⊥

-- All was done, and this is what the report tells.
pub record IsWorked (n : ℕ) (holds : Held) (sampled : Sampled) : Type 0 where
  pub size : IsSize n sampled.size
  pub checked : HasChecked n holds sampled.solved.ending sampled.solved.list sampled.verdict
