-- What the three names of a sample hold when a fault or want of memory has ended the work on it.
use Rattle.std.specs.Prelude.{ℕ, ◌≡◌, ◌⊎◌, List, [], Option, Some}
use Rattle.ec_clause.specs.declared.ending.Ending.{Ending}
use Rattle.ec_edge.specs.Pieces.{AppendsHeldPrefix}
use Rattle.ec_sample.specs.Text.{sample_text}
use Rattle.ec_engine.specs.Solve.{WritesPrefix}
use Rattle.ec_command.specs.Sample.{Held, sample_file, sample_list, sample_log, IsMade, IsSolvedSample, IsListedSample}
use Rattle.ec_command.specs.Words.{usual_bounds}

-- A name was to get this text: it holds what it held, or a prefix of the text; of a name that was lost, nothing is said.
abbrev pub IsLeft : Type 0 → List ℕ → Option (List ℕ) → Option (List ℕ) → Type 0
IsLeft lost text before after = lost ⊎ (after ≡ before) ⊎ AppendsHeldPrefix text (Some []) after

-- The log of the search holds what it held, or a prefix of one that is due; of a log that was lost, nothing is said.
abbrev pub IsLogLeft : Type 0 → Held → Option (List ℕ) → Option (List ℕ) → Type 0
IsLogLeft lost holds before after = lost ⊎ (after ≡ before) ⊎ WritesPrefix holds sample_file sample_log usual_bounds after

-- Where the work ended: with the file, with the search, with the list, or behind them. What comes later is as it was. A name is lost where a start of it failed.
pub data Stops (n : ℕ) (held holds : Held) (lost : Type 0) : Type 0 where
  making : IsLeft lost (sample_text n) (held sample_file) (holds sample_file) → holds sample_log ≡ held sample_log → holds sample_list ≡ held sample_list → Stops n held holds lost
  solving : IsMade n holds → IsLogLeft lost holds (held sample_log) (holds sample_log) → holds sample_list ≡ held sample_list → Stops n held holds lost
  listing : (ending : Ending) (text : List ℕ) → IsSolvedSample n holds ending text → IsLeft lost text (held sample_list) (holds sample_list) → Stops n held holds lost
  checking : (ending : Ending) (text : List ℕ) → IsListedSample n holds ending text → Stops n held holds lost
