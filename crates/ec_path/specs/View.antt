-- The path that a borrowed one is.
use Rattle.std.specs.Prelude.{List, [], ◌∷◌, ◌++◌, map}
use Rattle.ec_logic.specs.Paths as logic
use Rattle.ec_theory.specs.View.{formula_tree, term_trees}
use Rattle.ec_path.specs.declared.path.Step.{Step}
use Rattle.ec_path.specs.declared.path.Step.TheVariants as step
use Rattle.ec_path.specs.declared.path.Path.{Path}

abbrev pub step_of : Step → logic.Step
step_of (step.Binder sort scope) = logic.binder sort (formula_tree scope.now)
step_of (step.Body body) = logic.body (formula_tree body.now)

abbrev pub path_of : Path → logic.Path
path_of path = record { steps = map step_of path.steps.items; predicate = path.predicate; args = term_trees path.args.now }

-- paths with these steps above each
abbrev pub below : List logic.Step → List logic.Path → List logic.Path
below steps [] = []
below steps (path ∷ rest) = (record { steps = steps ++ path.steps; predicate = path.predicate; args = path.args }) ∷ below steps rest
