-- The clause list of a theory.
use Rattle.std.specs.Prelude.{ℕ, ◌+◌, length}
use Rattle.ec_logic.specs.Theory.{Theory}
use Rattle.ec_clause.specs.ClauseList.{ClauseList}
use Rattle.ec_naming.specs.Variables.{variable_of}
use Rattle.ec_naming.specs.Listing.{names_taken_whole, clause_list}
use Rattle.ec_grounding.specs.Grounded.{sentence_trees, definitions, variables}

-- the variable of an atom, 0 for none
abbrev pub variable_in : Theory → ℕ → ℕ
variable_in theory atom = variable_of (variables theory) atom

-- The variables are those of the atoms, in order, and then the names of trees. The sentences' trees are asserted, then the definitions given.
abbrev pub clauses_of : Theory → ClauseList
clauses_of theory = record {
  variables = length (variables theory) + names_taken_whole (sentence_trees theory) (definitions theory);
  clauses = clause_list (variable_in theory) (length (variables theory) + 1) (sentence_trees theory) (definitions theory);
}
