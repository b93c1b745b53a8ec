-- what a checker has accepted
use Rattle.std.specs.Prelude.{◌||◌, Bool, true, false, List, [], ◌∷◌, ◌++◌}
use Rattle.ec_clause.specs.Literal.{Literal}
use Rattle.ec_clause.specs.ClauseList.{ClauseList}

-- the clauses so far, and whether one without a literal is among the steps
pub record Checked : Type 0 where
  pub list : ClauseList
  pub closed : Bool

-- nothing was accepted yet
abbrev pub fresh : ClauseList → Checked
fresh list = record { list = list; closed = false }

-- a list with one clause more
abbrev pub with_clause : ClauseList → List Literal → ClauseList
with_clause c lits = record { variables = c.variables; clauses = c.clauses ++ lits ∷ [] }

-- a clause that forbids a truth is added
abbrev pub with_block : Checked → List Literal → Checked
with_block c lits = record { list = with_clause c.list lits; closed = c.closed }

abbrev pub is_empty : List Literal → Bool
is_empty [] = true
is_empty (l ∷ ls) = false

-- a step is added
abbrev pub with_step : Checked → List Literal → Checked
with_step c lits = record { list = with_clause c.list lits; closed = c.closed || is_empty lits }
