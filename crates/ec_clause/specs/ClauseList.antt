-- a numbered list of clauses
use Rattle.std.specs.Prelude.{◌≢◌, ℕ, ◌+◌, ◌-◌, ◌≤◌, ◌<◌, ◌^◌, List, [], length, All, AllPairs, map, slice_range, slice_index_or}
use Rattle.ec_clause.specs.Literal.{Literal}
use Rattle.ec_clause.specs.declared.clauses.Span.{Span}

pub record ClauseList : Type 0 where
  pub variables : ℕ
  pub clauses : List (List Literal)

-- the clause of a number, from 1
abbrev pub clause_at : ClauseList → ℕ → List Literal
clause_at c n = slice_index_or c.clauses (n - 1) []

-- a clause has variables in range and no two alike, so its literals are distinct, none opposite to another
pub record IsClause (variables : ℕ) (lits : List Literal) : Type 0 where
  pub in_range : All (λ (l : Literal). (1 ≤ l.variable) × (l.variable ≤ variables)) lits
  pub apart : AllPairs (λ (k l : Literal). k.variable ≢ l.variable) lits

-- the piece of a list that a span names
abbrev pub piece : List Literal → Span → List Literal
piece lits s = slice_range lits s.start (s.start + s.len)

-- the pieces of a list that spans name
abbrev pub pieces : List Literal → List Span → List (List Literal)
pieces lits spans = map (piece lits) spans

-- the spans name clauses, one behind the other
pub record AreSpans (variables : ℕ) (lits : List Literal) (spans : List Span) : Type 0 where
  pub few : length spans < 2 ^ 32
  pub small : variables < 2 ^ 31
  pub within : All (λ (s : Span). s.start + s.len ≤ length lits) spans
  pub behind : AllPairs (λ (s t : Span). s.start + s.len ≤ t.start) spans
  pub each : All (λ (s : Span). IsClause variables (piece lits s)) spans
