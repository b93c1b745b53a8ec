-- What a search for the truths of a theory finds.
use Rattle.std.specs.Prelude.{◌≡◌, ◌+◌, ◌<◌, ◌≤◌, ◌^◌, Bool, true, List, length, count_by}
use Rattle.std.specs.List.{AllByRecursion}
use Rattle.ec_logic.specs.Theory.{Theory}
use Rattle.ec_logic.specs.Listing.{IsRising, IsTruth, AreTruths}
use Rattle.ec_clause.specs.Note.{Note}
use Rattle.ec_clause.specs.Ending.{is_complete}
use Rattle.ec_clause.specs.declared.ending.Ending.{Ending}
use Rattle.ec_clause.specs.declared.ending.Ending.TheVariants.{Complete, Models, Conflicts}
use Rattle.ec_log.specs.Line.{IsLine}
use Rattle.ec_log.specs.Log.{Log, log_lines}
use Rattle.ec_certificate.specs.Accepted.{IsAccepted, has_literal}
use Rattle.ec_certificate.specs.Shown.{RepeatsNothing}
use Rattle.ec_cnf.specs.List.{clauses_of}
use Rattle.ec_solve.specs.declared.searching.Bounds.{Bounds}

-- The ending is that of the bound which was reached first, or of neither.
abbrev pub IsWithin : Bounds → List (List Bool) → List Note → Ending → Type 0
IsWithin bounds truths notes (Complete n) = (n ≡ length truths) × (n < bounds.models) × (count_by has_literal notes < bounds.conflicts)
IsWithin bounds truths notes (Models n) = (n ≡ length truths) × (n ≡ bounds.models) × (count_by has_literal notes < bounds.conflicts)
IsWithin bounds truths notes (Conflicts n) = (n ≡ bounds.conflicts) × (length truths < bounds.models)

-- Truths of a theory, with a log of how they were found.
pub record IsFound (theory : Theory) (bounds : Bounds) (truths : List (List Bool)) (ending : Ending) (log : Log) : Type 0 where
  -- they rise, so each is there once
  pub rising : IsRising truths
  -- each is the truth of a minimal model
  pub each : AllByRecursion (IsTruth theory) truths
  -- and where the search came to its end they are all
  pub all : is_complete ending ≡ true → AreTruths theory truths
  -- the log shows it
  pub accepted : IsAccepted (clauses_of theory) truths ending log
  pub fresh : RepeatsNothing (clauses_of theory) log.notes
  pub within : IsWithin bounds truths log.notes ending
  -- the list has few variables, and each clause of the list and of the log has a number of 32 bits
  pub few_variables : (clauses_of theory).variables ≤ 2 ^ 29
  pub few : length (clauses_of theory).clauses + length log.notes < 2 ^ 32
  -- so that each line of the log can be read
  pub lines : AllByRecursion IsLine (log_lines log ending)
