-- what a search notes
use Rattle.std.specs.Prelude.{ℕ, List}
use Rattle.ec_clause.specs.Literal.{Literal}

-- a derived clause with its hints, or a blocked clause
pub data Note : Type 0 where
  Derived : List Literal → List ℕ → Note
  Blocked : List Literal → Note
