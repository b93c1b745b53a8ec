-- How far a search has come with its log.
use Rattle.std.specs.Prelude.{◌≡◌, ◌≢◌, ℕ, Bool, false, List, length, count_by, All, AllPairs, Contains}
use Rattle.std.specs.List.{list_any}
use Rattle.ec_clause.specs.ClauseList.{ClauseList}
use Rattle.ec_clause.specs.Note.{Note, Blocked}
use Rattle.ec_clause.specs.Step.{AllHold}
use Rattle.ec_log.specs.Log.{Log}
use Rattle.ec_sat.specs.Searched.{Searched}
use Rattle.ec_certificate.specs.Accepted.{AreRight, forbids, refutes, is_derived, with_notes}
use Rattle.ec_certificate.specs.Shown.{RepeatsNothing, visible_part}

-- A log is under way: its notes are right and repeat nothing, each truth was blocked, and the clause without a literal was not derived.
-- The clauses that the search has now are those of the list with the notes' behind them.
pub record IsUnderWay (list : ClauseList) (truths : List (List Bool)) (notes : List Note) (now : ClauseList) : Type 0 where
  pub right : AreRight list truths notes
  pub repeats_nothing : RepeatsNothing list notes
  pub blocked : All (λ truth. Contains notes (Blocked (forbids truth))) truths
  pub open_still : list_any refutes notes ≡ false
  pub now_is : now ≡ with_notes list notes

-- a truth of the visible variables is that of a truth of all variables that meets the list
pub record IsMet (list : ClauseList) (visible : ℕ) (truth : List Bool) : Type 0 where
  pub whole : ℕ → Bool
  pub meets : AllHold whole list
  pub extends : visible_part visible whole ≡ truth

-- A solver's log is under way: each truth is one of the list, no two are alike, and the solver counts what was derived and blocked.
pub record IsLogged (list : ClauseList) (truths : List (List Bool)) (notes : List Note) (s : Searched) : Type 0 where
  pub under_way : IsUnderWay list truths notes s.list
  pub met : All (IsMet list s.visible) truths
  pub apart : AllPairs (λ (t u : List Bool). t ≢ u) truths
  pub derived : s.derived ≡ count_by is_derived notes
  pub blocked : s.blocked ≡ length truths

-- a log of these notes, with the list's numbers
abbrev pub log_of : ClauseList → List Note → Log
log_of list notes = record { numbers = (list.variables, length list.clauses); notes = notes }

-- each truth of one list is one of the other
abbrev pub AreAmong : List (List Bool) → List (List Bool) → Type 0
AreAmong truths truths' = (truth : List Bool) → Contains truths truth → Contains truths' truth
