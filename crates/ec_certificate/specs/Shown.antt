-- What logs show.
use Rattle.std.specs.Prelude.{◌≡◌, ℕ, ◌<◌, ◌^◌, Bool, List, length, map, take, count_by, All, Contains, slice_index_or}
use Rattle.std.specs.List.{range_with_len}
use Rattle.ec_clause.specs.Literal.{Literal}
use Rattle.ec_clause.specs.ClauseList.{ClauseList}
use Rattle.ec_clause.specs.Note.{Note, Derived}
use Rattle.ec_clause.specs.Step.{AllHold}
use Rattle.ec_clause.specs.declared.ending.Ending.{Ending}
use Rattle.ec_clause.specs.declared.ending.Ending.TheVariants.{Complete}
use Rattle.ec_log.specs.Log.{Log}
use Rattle.ec_sat.specs.Reasons.{ContainsNone}
use Rattle.ec_certificate.specs.Accepted.{IsAccepted, with_notes, has_literal}

-- the truth of the visible variables, which are those from 1 on, in a truth of all variables
abbrev pub visible_part : ℕ → (ℕ → Bool) → List Bool
visible_part visible w = map w (range_with_len 1 visible)

-- A closed log leaves no truth out: the visible part of each truth of all variables that meets the clause list is one of the list's.
abbrev pub LeavesNoneOut : Type 0
LeavesNoneOut = (list : ClauseList) (truths : List (List Bool)) (n visible : ℕ) (log : Log) → IsAccepted list truths (Complete n) log → All (λ truth. length truth ≡ visible) truths
    → (w : ℕ → Bool) → AllHold w list → Contains truths (visible_part visible w)

-- No derived clause with a literal contains a clause that stands before it.
abbrev pub RepeatsNothing : ClauseList → List Note → Type 0
RepeatsNothing list notes = (k : ℕ) (d : Note) (lits : List Literal) (hints : List ℕ) → k < length notes → slice_index_or notes k d ≡ Derived lits hints → 0 < length lits
    → ContainsNone (with_notes list (take k notes)) lits

-- Where nothing is repeated, the derived clauses with a literal are fewer than there are ways to put each variable into a clause, as it is, negated, or not at all.
abbrev pub AreFewDerived : Type 0
AreFewDerived = (list : ClauseList) (truths : List (List Bool)) (ending : Ending) (log : Log) → IsAccepted list truths ending log → RepeatsNothing list log.notes
    → count_by has_literal log.notes < 3 ^ list.variables
