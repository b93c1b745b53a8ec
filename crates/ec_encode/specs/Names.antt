-- A clause list under way.
use Rattle.std.specs.Prelude.{ℕ, List}
use Rattle.ec_clause.specs.Literal.{Literal}

-- how many variables there are, the clauses so far, and the first variable that is free for names
pub record NamesState : Type 0 where
  pub variables : ℕ
  pub clauses : List (List Literal)
  pub next : ℕ
