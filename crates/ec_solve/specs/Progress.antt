-- How far a search for the truths of a clause list has come.
use Rattle.std.specs.Prelude.{◌≡◌, ◌≢◌, ℕ, ◌+◌, ◌≤◌, ◌<◌, Bool, true, List, length, All, AllPairs, Contains, Option, Some, None}
use Rattle.ec_clause.specs.ClauseList.{ClauseList}
use Rattle.ec_clause.specs.Step.{AllHold}
use Rattle.ec_clause.specs.Ending.{is_complete}
use Rattle.ec_clause.specs.declared.ending.Ending.{Ending}
use Rattle.ec_log.specs.Log.{Log}
use Rattle.ec_sat.specs.Searched.{Searched}
use Rattle.ec_sat.specs.declared.answer.Phase.TheVariants.{Ready}
use Rattle.ec_certificate.specs.Accepted.{IsAccepted}
use Rattle.ec_certificate.specs.Shown.{RepeatsNothing, visible_part}
use Rattle.ec_certificate.specs.Progress.{IsMet, IsLogged}
use Rattle.ec_solve.specs.Found.{IsWithin}
use Rattle.ec_solve.specs.declared.searching.Bounds.{Bounds}
use Rattle.ec_solve.specs.declared.progress.Progress.{Progress}

-- A search that can go on: its log is under way, and its conflicts are below their bound.
pub record IsGoing (list : ClauseList) (conflicts visible : ℕ) (truths : List (List Bool)) (log : Log) (s : Searched) : Type 0 where
  pub logged : IsLogged list truths log.notes s
  pub numbers : log.numbers ≡ (list.variables, length list.clauses)
  pub seen : s.visible ≡ visible
  pub ready : s.phase ≡ Ready
  pub more : s.derived < conflicts
  -- each note is of a derived or of a blocked clause
  pub counted : length log.notes ≡ s.derived + s.blocked

-- A search that ended: its log is accepted, each truth is one of the list, no two are alike, and where it came to its end there are no others.
pub record IsDone (list : ClauseList) (bounds : Bounds) (visible : ℕ) (truths : List (List Bool)) (log : Log) (ending : Ending) : Type 0 where
  pub accepted : IsAccepted list truths ending log
  pub fresh : RepeatsNothing list log.notes
  pub met : All (IsMet list visible) truths
  pub apart : AllPairs (λ (t u : List Bool). t ≢ u) truths
  pub whole : is_complete ending ≡ true → (w : ℕ → Bool) → AllHold w list → Contains truths (visible_part visible w)
  pub within : IsWithin bounds truths log.notes ending
  pub few : length log.notes ≤ bounds.conflicts + length truths + 1
  pub few_truths : length truths ≤ bounds.models

-- A step finds one truth more and can go on, or ends the search.
abbrev pub Steps : ClauseList → Bounds → Progress → Progress → Option Ending → Type 0
Steps list bounds old new None = IsGoing list bounds.conflicts new.visible new.truths.items new.log new.solver × (length new.truths.items ≡ length old.truths.items + 1)
Steps list bounds old new (Some ending) = IsDone list bounds new.visible new.truths.items new.log ending
