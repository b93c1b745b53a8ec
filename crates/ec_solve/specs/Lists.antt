-- The clause list of what a theory was grounded to.
use Rattle.std.specs.Prelude.{◌≡◌}
use Rattle.ec_logic.specs.Theory.{Theory}
use Rattle.ec_clause.specs.ClauseList.{ClauseList}
use Rattle.ec_cnf.specs.List.{clauses_of}
use Rattle.ec_grounding.specs.Grounded.{sentence_trees, definitions, variables}
use Rattle.ec_prop.specs.Grounded.{sentences_of, definitions_of}
use Rattle.ec_prop.specs.declared.ground.Grounded.{Grounded}

-- the list is that of each theory that was grounded so
abbrev pub IsListOf : Grounded → ClauseList → Type 0
IsListOf grounded list = (theory : Theory) → sentences_of grounded ≡ sentence_trees theory → definitions_of grounded.definitions.items ≡ definitions theory
    → grounded.variables.items ≡ variables theory → list ≡ clauses_of theory
