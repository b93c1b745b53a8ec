-- What is due for the sample of a number: its text, a list of its narratives and the log of the search for them, the check of both, and four lines.
use Rattle.std.specs.Prelude.{ℕ, ◌≡◌, ◌⊎◌, codes, List, ◌++◌, Option, Some, Ok}
use Rattle.ec_clause.specs.declared.ending.Ending.{Ending}
use Rattle.ec_logic.specs.Narrative.{line}
use Rattle.ec_logic.specs.Theory.{Theory}
use Rattle.ec_weight.specs.Weight.{weight_of}
use Rattle.ec_accept.specs.Accepted.{IsAccepted, visible_count}
use Rattle.ec_sample.specs.Text.{sample_text}
use Rattle.ec_engine.specs.declared.checking.CheckEnd.{CheckEnd}
use Rattle.ec_engine.specs.declared.solving.SolveEnd.TheVariants as solve
use Rattle.ec_engine.specs.Check.{IsCheckDue}
use Rattle.ec_engine.specs.Show.{count_line}
use Rattle.ec_engine.specs.Solve.{IsSolveDue}
use Rattle.ec_command.specs.LastLine.{last_line}
use Rattle.ec_command.specs.Words.{usual_bounds}

-- what each name holds, if it is held
abbrev pub Held : Type 0
Held = List ℕ → Option (List ℕ)

-- ---- the three names

abbrev pub sample_file : List ℕ
sample_file = codes "sample.e"

abbrev pub sample_list : List ℕ
sample_list = codes "sample.out"

abbrev pub sample_log : List ℕ
sample_log = codes "sample.log"

abbrev pub IsSampleName : List ℕ → Type 0
IsSampleName name = (name ≡ sample_file) ⊎ (name ≡ sample_list) ⊎ (name ≡ sample_log)

-- ---- what the names hold, and what is put

-- The file has the text of the number.
abbrev pub IsMade : ℕ → Held → Type 0
IsMade n holds = holds sample_file ≡ Some (sample_text n)

-- And it was solved: the text is the list that is due with the ending, by the usual bounds, and the log is the one that is due with both.
pub record IsSolvedSample (n : ℕ) (holds : Held) (ending : Ending) (text : List ℕ) : Type 0 where
  pub made : IsMade n holds
  pub solved : IsSolveDue holds sample_file sample_log usual_bounds (solve.Done ending) text (holds sample_log)

-- And its list was written.
pub record IsListedSample (n : ℕ) (holds : Held) (ending : Ending) (text : List ℕ) : Type 0 where
  pub solved : IsSolvedSample n holds ending text
  pub listed : holds sample_list ≡ Some text

-- The four lines: a weight, a number of atoms, and the last lines of what the search and the check put.
abbrev pub report : ℕ → ℕ → List ℕ → List ℕ → List ℕ
report weight atoms list verdict = count_line (codes "weight: ") weight ++ count_line (codes "atoms: ") atoms
    ++ line (codes "solve: " ++ last_line list) ++ line (codes "check: " ++ last_line verdict)

-- The three names hold the text, the list and the log, what is due for the search and for the check holds of them, and the report is that of the file's theory.
pub record IsSampled (n : ℕ) (holds : Held) (ending : Ending) (text : List ℕ) : Type 0 where
  pub list : List ℕ
  pub listed : IsListedSample n holds ending list
  pub answer : CheckEnd
  pub verdict : List ℕ
  pub checked : IsCheckDue holds sample_file sample_list sample_log answer verdict
  pub theory : Theory
  pub accepted : IsAccepted holds sample_file (Ok theory)
  pub reported : text ≡ report (weight_of theory) (visible_count theory) list verdict
