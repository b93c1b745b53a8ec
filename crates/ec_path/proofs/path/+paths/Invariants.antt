use Rattle.std.proofs.Common.{◌≡◌, ◌++◌, map, drop}
use Rattle.ec_logic.specs.Paths.{paths_of}
use Rattle.ec_theory.specs.View.{formula_trees}
use Rattle.ec_path.specs.View.{below, path_of, step_of}
use Rattle.ec_path.proofs.path.+paths.Given as goal

abbrev pub invariant-gather_each-loop-formula : goal.invariant-gather_each-loop-formula
invariant-gather_each-loop-formula l = record {
  above : l.above.items ≡ l.fn.above.items;
  rest : map path_of l.found.items ++ below (map step_of l.fn.above.items) (paths_of (formula_trees (drop l.formula-index l.formulas))) ≡ map path_of l.fn.found.items ++ below (map step_of l.fn.above.items) (paths_of (formula_trees l.formulas));
}
