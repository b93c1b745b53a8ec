-- what settling a trail leaves
use Rattle.std.specs.Prelude.{◌≡◌, ℕ, ◌≤◌, ◌<◌, true, false, List, Some, None, length, take, slice_index_or, Contains}
use Rattle.ec_clause.specs.ClauseList.{ClauseList, clause_at}
use Rattle.ec_clause.specs.Literal.{Literal}
use Rattle.ec_clause.specs.Truth.{Truth, is_false, unit_literal}
use Rattle.ec_trail.specs.declared.trail.Entry.{Entry}
use Rattle.ec_trail.specs.TrailList.{TrailList, values_of, top_level}
use Rattle.ec_unit.specs.declared.watch.Settled.{Settled}
use Rattle.ec_unit.specs.declared.watch.Settled.TheVariants.{Quiet, Conflict}

-- the number of a clause
pub record IsNumber (c : ClauseList) (number : ℕ) : Type 0 where
  pub low : 1 ≤ number
  pub high : number ≤ length c.clauses

-- a literal that a clause gives, which is unit under the literals before it
pub record IsImplied (c : ClauseList) (variables : ℕ) (before : List Entry) (e : Entry) : Type 0 where
  pub reason : (number : ℕ) × (e.reason ≡ Some number) × IsNumber c number × (unit_literal (values_of variables before) (clause_at c number) ≡ Some e.lit)
  pub level : e.level ≡ top_level before

-- implied literals alone were added, behind those that were there
pub record AddsImplied (c : ClauseList) (old new : TrailList) : Type 0 where
  pub variables : new.variables ≡ old.variables
  pub longer : length old.entries ≤ length new.entries
  pub front : take (length old.entries) new.entries ≡ old.entries
  pub each : (k : ℕ) (d : Entry) → length old.entries ≤ k → k < length new.entries → IsImplied c old.variables (take k new.entries) (slice_index_or new.entries k d)

-- a clause that is neither false nor unit
pub record IsQuiet (p : Truth) (lits : List Literal) : Type 0 where
  pub not_false : is_false p lits ≡ false
  pub not_unit : unit_literal p lits ≡ None

-- no clause is false or unit
abbrev pub AllQuiet : ClauseList → Truth → Type 0
AllQuiet c p = (number : ℕ) → IsNumber c number → IsQuiet p (clause_at c number)

-- the clause of this number is false
pub record IsFalseAt (c : ClauseList) (p : Truth) (number : ℕ) : Type 0 where
  pub in_range : IsNumber c number
  pub each_false : is_false p (clause_at c number) ≡ true

-- Quiet where no clause is false or unit, and Conflict where one is false, this one
abbrev pub Settles : ClauseList → Truth → Settled → Type 0
Settles c p Quiet = AllQuiet c p
Settles c p (Conflict number) = IsFalseAt c p number

-- a literal of a clause was made true at level 0
pub record HoldsAtZero (es : List Entry) (lits : List Literal) : Type 0 where
  pub lit : Literal
  pub of_clause : Contains lits lit
  pub place : ℕ
  pub within : place < length es
  pub there : (d : Entry) → (slice_index_or es place d).lit ≡ lit
  pub level : (d : Entry) → (slice_index_or es place d).level ≡ 0

-- so it is with each clause of fewer than two literals
abbrev pub ShortHoldAtZero : ClauseList → List Entry → Type 0
ShortHoldAtZero c es = (number : ℕ) → IsNumber c number → length (clause_at c number) < 2 → HoldsAtZero es (clause_at c number)
