-- what is seen of a solver
use Rattle.std.specs.Prelude.{◌≡◌, ℕ, ◌+◌, ◌≤◌, ◌^◌, Bool, List, [], ◌∷◌, ◌++◌, length}
use Rattle.ec_clause.specs.ClauseList.{ClauseList}
use Rattle.ec_clause.specs.Truth.{Truth}
use Rattle.ec_clause.specs.Note.{Note, Blocked}
use Rattle.ec_trail.specs.TrailList.{TrailList}
use Rattle.ec_unit.specs.Watching.{Watched}
use Rattle.ec_sat.specs.Ready.{IsReady}
use Rattle.ec_sat.specs.Run.{Runs, blocked_clause}
use Rattle.ec_sat.specs.declared.known.Known.{Known}
use Rattle.ec_sat.specs.declared.answer.Next.{Next}
use Rattle.ec_sat.specs.declared.answer.Next.TheVariants.{Model, Exhausted, Conflicts, Memory}
use Rattle.ec_sat.specs.declared.answer.Phase.{Phase}
use Rattle.ec_sat.specs.declared.answer.Phase.TheVariants.{Ready, Found, Ended}

-- the list has the clauses of the beginning and then each noted one; 'derived' counts the derived ones with a literal
pub record Searched : Type 0 where
  pub phase : Phase
  pub visible : ℕ
  pub list : ClauseList
  pub blocked : ℕ
  pub derived : ℕ
  pub assignment : Truth

-- where an answer leaves a solver
abbrev pub phase_after : Next → Phase
phase_after Model = Found
phase_after Exhausted = Ended
phase_after Conflicts = Ended
phase_after Memory = Ended

-- a search with an answer: what it derived, noted and added, and where it leaves the solver
pub record Searches (old new : Searched) (before after : List Note) (limit : ℕ) (answer : Next) : Type 0 where
  pub runs : Runs old.list new.list before after old.derived new.derived limit new.assignment answer
  pub phase : new.phase ≡ phase_after answer
  pub visible : new.visible ≡ old.visible
  pub blocked : new.blocked ≡ old.blocked

-- a model was blocked: the one clause was noted and added
pub record Blocks (old new : Searched) (before after : List Note) : Type 0 where
  pub phase : new.phase ≡ Ready
  pub visible : new.visible ≡ old.visible
  pub variables : new.list.variables ≡ old.list.variables
  pub clauses : new.list.clauses ≡ old.list.clauses ++ blocked_clause old.visible old.assignment ∷ []
  pub noted : after ≡ before ++ Blocked (blocked_clause old.visible old.assignment) ∷ []
  pub blocked : new.blocked ≡ old.blocked + 1
  pub derived : new.derived ≡ old.derived

-- a model was not blocked, for want of memory
pub record BlocksNone (old new : Searched) (before after : List Note) : Type 0 where
  pub phase : new.phase ≡ Ended
  pub visible : new.visible ≡ old.visible
  pub list : new.list ≡ old.list
  pub noted : after ≡ before
  pub blocked : new.blocked ≡ old.blocked
  pub derived : new.derived ≡ old.derived

-- a search can go on, and its clauses are few, unless it ended
abbrev pub IsGoing : Phase → ℕ → ℕ → ClauseList → TrailList → Watched → ℕ → List Bool → Known → Type 0
IsGoing Ready blocked derived list trail watch order marks known = IsReady list trail watch order marks known × (length list.clauses ≤ 2 ^ 30 + blocked + derived)
IsGoing Found blocked derived list trail watch order marks known = IsReady list trail watch order marks known × (length list.clauses ≤ 2 ^ 30 + blocked + derived)
IsGoing Ended blocked derived list trail watch order marks known = Unit {0}

-- the numbers of variables and of clauses stay far from the greatest number
pub record AreFew (visible blocked derived : ℕ) (list : ClauseList) : Type 0 where
  pub few_variables : list.variables ≤ 2 ^ 30
  pub few_visible : visible ≤ list.variables
  pub few_blocked : blocked ≤ 2 ^ 20
  pub few_derived : derived ≤ 2000000000
