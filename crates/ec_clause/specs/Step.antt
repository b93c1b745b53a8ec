-- a clause follows from earlier clauses by its hints
use Rattle.std.specs.Prelude.{◌≡◌, ℕ, ◌+◌, ◌&&◌, Bool, true, List, [], ◌∷◌, Option, Some, None, length, fold, replicate, nat_le, All, if◌then◌else◌}
use Rattle.std.specs.List.{list_any}
use Rattle.ec_clause.specs.Literal.{Literal, opposite}
use Rattle.ec_clause.specs.ClauseList.{ClauseList, clause_at, IsClause}
use Rattle.ec_clause.specs.Truth.{Truth, agree, with_true, is_false, unit_literal}

-- what is wrong first with literals and hints that are no step: the literals repeat, oppose one another or leave
-- the range; the hint at this place, from 0, names no clause; its clause is not unit; the last one's is not false
pub data Fault : Type 0 where
  Lits : Fault
  Unknown : ℕ → Fault
  NotUnit : ℕ → Fault
  NotFalse : Fault

-- whether a clause has this number
abbrev pub is_known : ClauseList → ℕ → Bool
is_known c number = nat_le 1 number && nat_le number (length c.clauses)

-- the partial truth with one literal made false
abbrev pub set_false : Truth → Literal → Truth
set_false p l = with_true p (opposite l)

-- the literals of a clause are false, and nothing else has a value
abbrev pub all_false : ℕ → List Literal → Truth
all_false variables lits = fold set_false (replicate (variables + 1) None) lits

-- the partial truth with the one literal left, if there is one, made true
abbrev pub unit_or : Option Literal → Truth → Option Truth
unit_or None p = None
unit_or (Some l) p = Some (with_true p l)

-- the last hint names a clause that is false
abbrev pub last_fault : ClauseList → Truth → ℕ → ℕ → Option Fault
last_fault c p at h = if is_known c h then (if is_false p (clause_at c h) then None else Some NotFalse) else Some (Unknown at)

-- the rest of the hints under the truth that a unit clause makes, if it is one
abbrev pub go_on : (Truth → Option Fault) → ℕ → Option Truth → Option Fault
go_on rest at None = Some (NotUnit at)
go_on rest at (Some p) = rest p

-- what is wrong first with the hints, the first of which has this place, under a partial truth: each but the last
-- names a clause that is unit, whose literal is then true, and the last one a clause that is false
abbrev pub hints_fault : ClauseList → List ℕ → Truth → ℕ → Option Fault
hints_fault c [] p at = Some NotFalse
hints_fault c (h ∷ []) p at = last_fault c p at h
hints_fault c (h ∷ g ∷ gs) p at = if is_known c h then go_on (λ q. hints_fault c (g ∷ gs) q (at + 1)) at (unit_or (unit_literal p (clause_at c h)) p) else Some (Unknown at)

-- a clause is a step where, with its literals false, nothing is wrong with its hints
pub record IsStep (c : ClauseList) (lits : List Literal) (hints : List ℕ) : Type 0 where
  pub clause : IsClause c.variables lits
  pub follows : hints_fault c hints (all_false c.variables lits) 0 ≡ None

-- what is wrong first: with the literals, and then with the hints
abbrev pub IsFault : ClauseList → List Literal → List ℕ → Fault → Type 0
IsFault c lits hints Lits = IsClause c.variables lits → ⊥
IsFault c lits hints f = IsClause c.variables lits × (hints_fault c hints (all_false c.variables lits) 0 ≡ Some f)

-- whether a literal holds under a truth of all variables
abbrev pub holds : (ℕ → Bool) → Literal → Bool
holds v l = agree l.positive (v l.variable)

-- whether a clause holds: one of its literals does
abbrev pub clause_holds : (ℕ → Bool) → List Literal → Bool
clause_holds v lits = list_any (holds v) lits

-- the clauses that the hints name hold
abbrev pub NamedHold : (ℕ → Bool) → ClauseList → List ℕ → Type 0
NamedHold v c hints = All (λ h. clause_holds v (clause_at c h) ≡ true) hints

-- all clauses of a list hold
abbrev pub AllHold : (ℕ → Bool) → ClauseList → Type 0
AllHold v c = All (λ lits. clause_holds v lits ≡ true) c.clauses
