-- which literals are watched, and which trail was settled last
use Rattle.std.specs.Prelude.{◌≡◌, ◌≢◌, ℕ, ◌+◌, ◌-◌, ◌*◌, ◌≤◌, ◌<◌, true, false, List, Option, Some, None, length, Contains, slice_index_or}
use Rattle.ec_clause.specs.Literal.{Literal}
use Rattle.ec_clause.specs.ClauseList.{ClauseList, clause_at}
use Rattle.ec_clause.specs.Truth.{Truth, literal_value}
use Rattle.ec_trail.specs.declared.trail.Entry.{Entry}
use Rattle.ec_unit.specs.declared.watch.Settled.{Settled}
use Rattle.ec_unit.specs.declared.watch.Settled.TheVariants.{Quiet, Conflict}

-- two places for each clause, for the literals that are watched in it, both empty where it has fewer than two; and
-- the literals of the trail that was settled last
pub record Watched : Type 0 where
  pub variables : ℕ
  pub watches : List (Option Literal)
  pub seen : List Literal

-- two literals, where both are there
abbrev pub both : Option Literal → Option Literal → Option (Literal × Literal)
both None second = None
both (Some first) None = None
both (Some first) (Some second) = Some (first, second)

-- the literals in the two places of the clause of a number
abbrev pub pair_at : List (Option Literal) → ℕ → Option (Literal × Literal)
pair_at watches number = both (slice_index_or watches (2 * (number - 1)) None) (slice_index_or watches (2 * (number - 1) + 1) None)

-- the two watched literals of the clause of a number
abbrev pub watched_at : Watched → ℕ → Option (Literal × Literal)
watched_at w number = pair_at w.watches number

-- two different literals of a clause, and none exactly where it has fewer than two
abbrev pub IsWatched : List Literal → Option (Literal × Literal) → Type 0
IsWatched lits None = length lits < 2
IsWatched lits (Some pair) = Contains lits pair.0 × Contains lits pair.1 × (pair.0 ≢ pair.1)

-- two places are there for each clause up to a number, with watched literals of it
pub record AreWatched (c : ClauseList) (upto n : ℕ) (watches : List (Option Literal)) : Type 0 where
  pub variables : n ≡ c.variables
  pub count : length watches ≡ 2 * upto
  pub each : (number : ℕ) → 1 ≤ number → number ≤ upto → IsWatched (clause_at c number) (pair_at watches number)

-- the clauses up to a number are those watched over
abbrev pub WatchesUpTo : ClauseList → ℕ → Watched → Type 0
WatchesUpTo c upto w = AreWatched c upto w.variables w.watches

-- the clauses of a list are those watched over
abbrev pub Watches : ClauseList → Watched → Type 0
Watches c w = WatchesUpTo c (length c.clauses) w

-- where one of two literals is false, the other is true
abbrev pub IsSafe : Truth → Option (Literal × Literal) → Type 0
IsSafe p None = Unit {0}
IsSafe p (Some pair) = (literal_value p pair.0 ≡ Some false → literal_value p pair.1 ≡ Some true) × (literal_value p pair.1 ≡ Some false → literal_value p pair.0 ≡ Some true)

-- after Quiet, the two watched literals of each clause are so
abbrev pub AreSafe : Watched → ℕ → Truth → Settled → Type 0
AreSafe w upto p Quiet = (number : ℕ) → 1 ≤ number → number ≤ upto → IsSafe p (watched_at w number)
AreSafe w upto p (Conflict number) = Unit {0}

-- up to a front, the literals seen are those of the trail
pub record Agrees (seen : List Literal) (es : List Entry) (front : ℕ) : Type 0 where
  pub of_seen : front ≤ length seen
  pub of_trail : front ≤ length es
  pub same : (i : ℕ) (d : Literal) (e : Entry) → i < front → slice_index_or seen i d ≡ (slice_index_or es i e).lit
