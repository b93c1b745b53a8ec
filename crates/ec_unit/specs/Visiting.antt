-- a walk over the watches of a literal that became false
use Rattle.std.specs.Prelude.{◌≡◌, ◌≢◌, ℕ, ◌+◌, ◌≤◌, ◌<◌, false, List, Option, Some, None, IfSome, length, Contains}
use Rattle.ec_clause.specs.Literal.{Literal, opposite}
use Rattle.ec_clause.specs.ClauseList.{ClauseList, clause_at}
use Rattle.ec_clause.specs.Truth.{Truth, literal_value}
use Rattle.ec_trail.specs.TrailList.{TrailList, truth_of}
use Rattle.ec_unit.specs.declared.seen.Seen.{Seen}
use Rattle.ec_unit.specs.declared.table.Table.{Table}
use Rattle.ec_unit.specs.declared.visit.Step.{Step}
use Rattle.ec_unit.specs.declared.visit.Step.TheVariants.{Stay, Move, Conflict}
use Rattle.ec_unit.specs.declared.visit.Walk.{Walk}
use Rattle.ec_unit.specs.Settling.{IsFalseAt}
use Rattle.ec_unit.specs.Chained.{lit_at, IsOn, IsBehind}
use Rattle.ec_unit.specs.Leaning.{Leans, AreOf, seen_at}
use Rattle.ec_unit.specs.Working.{IsWorking, AreChained}

-- a literal of a clause, another than the one given, that is not false
pub record IsOther (p : Truth) (lits : List Literal) (other l : Literal) : Type 0 where
  pub of_clause : Contains lits l
  pub differs : l ≢ other
  pub not_false : literal_value p l ≢ Some false

-- what a look at a clause found
abbrev pub Inspects : ClauseList → ℕ → Literal → ℕ → Truth → List Seen → Step → Type 0
Inspects c number other place p seen Stay = Leans seen other place
Inspects c number other place p seen (Move l) = IsOther p (clause_at c number) other l × (l.variable ≤ c.variables)
Inspects c number other place p seen Conflict = IsFalseAt c p number

-- the watches of a literal that are not ahead are held, as long as no clause was found false
pub record IsVisiting (c : ClauseList) (t : Table) (trail : TrailList) (walk : Walk) (conflict : Option ℕ) : Type 0 where
  pub working : IsWorking c t trail
  pub all : t.chained ≡ length c.clauses
  pub here : t.worked < length t.seen.items
  pub range : walk.lit.variable ≤ t.variables
  pub is_false : seen_at t.seen.items t.worked ≡ opposite walk.lit
  pub walking : AreChained t
  pub ahead : 0 < walk.left → IsOn t.chains.cells.items walking.on walk.lit walk.head × (walking.rank walk.head + 1 ≡ walk.left)
  pub behind : IsBehind walking.on walking.rank t.chains.chains.items t.chains.cells.items walk.lit walk.last walk.head walk.left
  pub kept : conflict ≡ None → (number a b : ℕ) (l : Literal) → AreOf number a b → number ≤ t.chained → lit_at t.chains.cells.items a ≡ Some walk.lit → walk.left ≤ walking.rank a → lit_at t.chains.cells.items b ≡ Some l → Leans t.seen.items l t.worked
  pub found : IfSome conflict (IsFalseAt c (truth_of trail))
