-- When a log is accepted.
use Rattle.std.specs.Prelude.{◌≡◌, ℕ, ◌+◌, ◌<◌, Bool, true, false, not, List, [], ◌∷◌, ◌++◌, length, map, take, count_by, All, Contains, slice_index_or}
use Rattle.std.specs.List.{list_any}
use Rattle.ec_clause.specs.Literal.{Literal}
use Rattle.ec_clause.specs.ClauseList.{ClauseList}
use Rattle.ec_clause.specs.Note.{Note, Derived, Blocked}
use Rattle.ec_clause.specs.Step.{IsStep}
use Rattle.ec_clause.specs.declared.ending.Ending.{Ending}
use Rattle.ec_clause.specs.declared.ending.Ending.TheVariants.{Complete, Models, Conflicts}
use Rattle.ec_log.specs.Log.{Log}

-- ---- notes as clauses

-- the clause that forbids a truth of the variables from this one on: its literals are negative where it is true
abbrev pub forbids_from : ℕ → List Bool → List Literal
forbids_from variable [] = []
forbids_from variable (b ∷ truth) = record { variable = variable; positive = not b } ∷ forbids_from (variable + 1) truth

-- the clause that forbids a truth of the visible variables, which are those from 1 on
abbrev pub forbids : List Bool → List Literal
forbids truth = forbids_from 1 truth

-- the clause that a note gives
abbrev pub clause_of : Note → List Literal
clause_of (Derived lits hints) = lits
clause_of (Blocked lits) = lits

-- a list of clauses and, behind it, those of these notes, each with the next number
abbrev pub with_notes : ClauseList → List Note → ClauseList
with_notes list notes = record { variables = list.variables; clauses = list.clauses ++ map clause_of notes }

abbrev pub is_derived : Note → Bool
is_derived (Derived lits hints) = true
is_derived (Blocked lits) = false

-- whether a note derives the clause without a literal, which no truth meets
abbrev pub refutes : Note → Bool
refutes (Derived [] hints) = true
refutes (Derived (l ∷ lits) hints) = false
refutes (Blocked lits) = false

-- whether a note derives a clause with a literal
abbrev pub has_literal : Note → Bool
has_literal (Derived [] hints) = false
has_literal (Derived (l ∷ lits) hints) = true
has_literal (Blocked lits) = false

-- ---- accepted logs

-- a blocked truth is one of the list's
pub record IsListed (truths : List (List Bool)) (lits : List Literal) : Type 0 where
  pub truth : List Bool
  pub listed : Contains truths truth
  pub forbidden : lits ≡ forbids truth

-- What is right of a note, by those before it: a derived clause is a step from the clauses that stand before it; a blocked truth is one
-- of the list's, and was not blocked before.
abbrev pub IsRight : ClauseList → List (List Bool) → List Note → Note → Type 0
IsRight list truths before (Derived lits hints) = IsStep (with_notes list before) lits hints
IsRight list truths before (Blocked lits) = IsListed truths lits × (Contains before (Blocked lits) → ⊥)

-- Each note is right.
abbrev pub AreRight : ClauseList → List (List Bool) → List Note → Type 0
AreRight list truths notes = (k : ℕ) (d : Note) → k < length notes → IsRight list truths (take k notes) (slice_index_or notes k d)

-- The clause without a literal was derived exactly where all truths are listed; a limit's number is that of the derived clauses.
abbrev pub IsEndedBy : List Note → Ending → Type 0
IsEndedBy notes (Complete n) = list_any refutes notes ≡ true
IsEndedBy notes (Models n) = list_any refutes notes ≡ false
IsEndedBy notes (Conflicts n) = (list_any refutes notes ≡ false) × (count_by is_derived notes ≡ n)

-- A log is accepted for a clause list, for truths of its visible variables, and for an ending.
pub record IsAccepted (list : ClauseList) (truths : List (List Bool)) (ending : Ending) (log : Log) : Type 0 where
  -- the header has the numbers of variables and of clauses
  pub numbers : log.numbers ≡ (list.variables, length list.clauses)
  pub right : AreRight list truths log.notes
  -- nothing follows a clause without a literal
  pub last : (k : ℕ) (d : Note) → k < length log.notes → refutes (slice_index_or log.notes k d) ≡ true → k + 1 ≡ length log.notes
  -- each truth was blocked
  pub blocked : All (λ truth. Contains log.notes (Blocked (forbids truth))) truths
  pub ended : IsEndedBy log.notes ending
