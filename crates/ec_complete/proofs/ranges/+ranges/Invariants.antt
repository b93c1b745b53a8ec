use Rattle.std.proofs.Common.{◌≡◌, ◌<◌, ◌+◌, ◌^◌, ◌++◌, map, drop}
use Rattle.ec_logic.specs.Universe.{universe_of}
use Rattle.ec_logic.specs.Reach.{nesting_of}
use Rattle.ec_theory.specs.View.{formula_tree, formula_trees}
use Rattle.ec_complete.specs.Completion.{ranges_of}
use Rattle.ec_complete.proofs.ranges.+ranges.Given as goal

abbrev pub invariant-add_ranges_of_each-loop-formula : goal.invariant-add_ranges_of_each-loop-formula
invariant-add_ranges_of_each-loop-formula l = record {
  depth : l.depth + nesting_of (formula_trees (drop l.formula-index l.formulas)) < 2 ^ 32;
  rest : map formula_tree l.found.items ++ ranges_of (universe_of l.signature) l.depth (formula_trees (drop l.formula-index l.formulas)) ≡ map formula_tree l.fn.found.items ++ ranges_of (universe_of l.signature) l.depth (formula_trees l.formulas);
}
