-- what is kept between two calls, and what holds while a trail is worked
use Rattle.std.specs.Prelude.{◌≡◌, ℕ, ◌+◌, ◌-◌, ◌*◌, ◌≤◌, ◌<◌, List, Option, Some, None, All, length, map, Contains, [], ◌∷◌, is_some, vec_capacity}
use Rattle.ec_clause.specs.Literal.{Literal}
use Rattle.ec_clause.specs.ClauseList.{ClauseList, clause_at}
use Rattle.ec_trail.specs.TrailList.{TrailList, truth_of}
use Rattle.ec_unit.specs.declared.chains.Cell.{Cell}
use Rattle.ec_unit.specs.declared.table.Table.{Table}
use Rattle.ec_unit.specs.declared.seen.Seen.{Seen}
use Rattle.ec_unit.specs.Watching.{Watched, Watches, IsSafe, watched_at}
use Rattle.ec_unit.specs.Chained.{lit_at, IsWalking}
use Rattle.ec_unit.specs.Leaning.{no_seen, Follows, HasTrue, AreHeld}

abbrev pub cell_lit : Cell → Option Literal
cell_lit cell = cell.lit

abbrev pub seen_lit : Seen → Literal
seen_lit s = s.lit

-- the first two literals of a clause, if it has two
abbrev pub first_two_of : List Literal → Option Literal × Option Literal
first_two_of [] = (None, None)
first_two_of (k ∷ []) = (None, None)
first_two_of (k ∷ l ∷ ls) = (Some k, Some l)

-- the two watches of a clause that is in no chain
abbrev pub cells_of : List Literal → List Cell
cells_of lits = record { lit = (first_two_of lits).0; next = 0 } ∷ record { lit = (first_two_of lits).1; next = 0 } ∷ []

-- the number of a clause, if it has fewer than two literals
abbrev pub short_of : List Literal → ℕ → List ℕ
short_of [] number = number ∷ []
short_of (k ∷ []) number = number ∷ []
short_of (k ∷ l ∷ ls) number = []

-- what is seen of a table
abbrev pub watched_of : Table → Watched
watched_of t = record { variables = t.variables; watches = map cell_lit t.chains.cells.items; seen = map seen_lit t.seen.items }

-- the two places of a clause are both empty or both not; the clauses with empty ones are noted as short
pub record AreShort (cells : List Cell) (count : ℕ) (short : List ℕ) : Type 0 where
  pub each : (number : ℕ) → 1 ≤ number → number ≤ count → lit_at cells (2 * (number - 1)) ≡ None → Contains short number
  pub together : (number : ℕ) → 1 ≤ number → number ≤ count → is_some (lit_at cells (2 * (number - 1))) ≡ is_some (lit_at cells (2 * (number - 1) + 1))
  pub in_range : All (λ number. (1 ≤ number) × (number ≤ count)) short

-- all watches of the clauses up to a number are in chains
abbrev pub AreChained : Table → Type 0
AreChained t = IsWalking t.variables t.chains.chains.items t.chains.cells.items (2 * t.chained) no_seen.lit 0 0

-- the watched literals of the clauses up to a number are held as far as the trail was worked
abbrev pub AreHeldIn : Table → Type 0
AreHeldIn t = AreHeld t.chains.cells.items t.chained t.seen.items t.worked

-- what a table keeps: its watches are in chains, and are held as far as the trail was worked
pub record IsTable (t : Table) : Type 0 where
  pub room : t.variables ≤ vec_capacity t.seen
  pub count : ℕ
  pub pairs : length t.chains.cells.items ≡ 2 * count
  pub short : AreShort t.chains.cells.items count t.short.items
  pub chained : t.chained ≤ count
  pub walking : AreChained t
  pub worked : t.worked ≤ length t.seen.items
  pub held : AreHeldIn t

-- what holds beside the chains while a trail is worked
pub record IsWorking (c : ClauseList) (t : Table) (trail : TrailList) : Type 0 where
  pub variables : t.variables ≡ trail.variables
  pub list : c.variables ≡ trail.variables
  pub room : t.variables ≤ vec_capacity t.seen
  pub watches : Watches c (watched_of t)
  pub short : AreShort t.chains.cells.items (length c.clauses) t.short.items
  pub chained : t.chained ≤ length c.clauses
  pub follows : Follows t.seen.items trail.entries
  pub worked : t.worked ≤ length t.seen.items
  pub held : AreHeldIn t

-- the clauses of fewer than two literals have a true one
abbrev pub ShortHold : ClauseList → List Seen → List ℕ → Type 0
ShortHold c seen short = All (λ number. length (clause_at c number) < 2 → HasTrue seen (clause_at c number)) short

-- the two watched literals of each clause are safe
abbrev pub AllSafe : ClauseList → Table → TrailList → Type 0
AllSafe c t trail = (number : ℕ) → 1 ≤ number → number ≤ length c.clauses → IsSafe (truth_of trail) (watched_at (watched_of t) number)
