-- The clause list that grounding and encoding give.
use Rattle.std.proofs.Common.{◌≡◌, ℕ, zero, suc, ◌+◌, ◌≤◌, ◌<◌, List, length, IfOk, Result, Ok, Err, ap, ◌∙◌, arith}
use Rattle.ec_clause.specs.ClauseList.{ClauseList}
use Rattle.ec_clause.specs.Literal.{Literal}
use Rattle.ec_cnf.specs.List.{clauses_of}
use Rattle.ec_encode.specs.Cnf.{variable_in, variables_of, clauses_of_theory}
use Rattle.ec_folding.specs.Tree.{Tree}
use Rattle.ec_folding.specs.Definition.{Definition}
use Rattle.ec_grounding.specs.Grounded.{sentence_trees, definitions, variables}
use Rattle.ec_logic.specs.Theory.{Theory}
use Rattle.ec_naming.specs.Variables.{variable_of}
use Rattle.ec_naming.specs.Listing.{names_taken_whole, clause_list}
use Rattle.ec_naming.proofs.Numbering.{variable_of-le}
use Rattle.ec_prop.specs.Grounded.{sentences_of, definitions_of}
use Rattle.ec_prop.specs.declared.ground.Grounded.{Grounded}

-- what both parts of an answer give
pub if_ok_both : {A E : Type 0} (r : Result A E) (P Q R : A → Type 0) → ((a : A) → P a → Q a → R a) → IfOk r P → IfOk r Q → IfOk r R
if_ok_both (Ok a) P Q R both p q = both a p q
if_ok_both (Err e) P Q R both p q = tt

-- the list of these sentences, definitions and atoms
abbrev list_of : List ℕ → List Tree → List Definition → ClauseList
list_of vs ss ds = record { variables = length vs + names_taken_whole ss ds; clauses = clause_list (variable_of vs) (length vs + 1) ss ds }

list_same : (list : ClauseList) (n : ℕ) (cs : List (List Literal)) → list.variables ≡ n → list.clauses ≡ cs → list ≡ record { variables = n; clauses = cs }
list_same list n cs e f = ap (λ m. record { variables = m; clauses = list.clauses }) e ∙ ap (λ xs. record { variables = n; clauses = xs }) f

pub list_is : (list : ClauseList) (g : Grounded) (theory : Theory) → sentences_of g ≡ sentence_trees theory → definitions_of g.definitions.items ≡ definitions theory → g.variables.items ≡ variables theory → list.variables ≡ variables_of g → list.clauses ≡ clauses_of_theory g
    → list ≡ clauses_of theory
list_is list g theory sentences defined atoms count clauses =
    list_same list (variables_of g) (clauses_of_theory g) count clauses
    ∙ (ap (λ vs. list_of vs (sentences_of g) (definitions_of g.definitions.items)) atoms
    ∙ (ap (λ ss. list_of (variables theory) ss (definitions_of g.definitions.items)) sentences
    ∙ ap (λ ds. list_of (variables theory) (sentence_trees theory) ds) defined))

pub visible_within : (visible : ℕ) (g : Grounded) → ((a : ℕ) → a < visible → variable_in g a ≡ a + 1) → visible ≤ variables_of g
visible_within zero g each = omega arith
visible_within (suc m) g each = omega (arith, each m (omega arith), variable_of-le g.variables.items m)
