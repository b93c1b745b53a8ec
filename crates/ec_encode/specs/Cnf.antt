-- The clause list of a grounded theory.
use Rattle.std.specs.Prelude.{ℕ, ◌+◌, List, length}
use Rattle.ec_clause.specs.Literal.{Literal}
use Rattle.ec_naming.specs.Variables.{variable_of}
use Rattle.ec_naming.specs.Listing.{names_taken_whole, clause_list}
use Rattle.ec_prop.specs.Grounded.{sentences_of, definitions_of}
use Rattle.ec_prop.specs.declared.ground.Grounded.{Grounded}

-- the variable of an atom, 0 for none
abbrev pub variable_in : Grounded → ℕ → ℕ
variable_in g a = variable_of g.variables.items a

-- the first variable behind those of the atoms
abbrev pub first_name : Grounded → ℕ
first_name g = length g.variables.items + 1

-- how many variables there are: those of the atoms and the names
abbrev pub variables_of : Grounded → ℕ
variables_of g = length g.variables.items + names_taken_whole (sentences_of g) (definitions_of g.definitions.items)

-- the clauses, number for number
abbrev pub clauses_of_theory : Grounded → List (List Literal)
clauses_of_theory g = clause_list (variable_in g) (first_name g) (sentences_of g) (definitions_of g.definitions.items)
