use Rattle.std.proofs.Common.{◌≡◌, ◌≤◌, map, take, length}
use Rattle.ec_theory.specs.View.{formula_tree}
use Rattle.ec_path.specs.View.{step_of}
use Rattle.ec_complete.specs.Completion.{within}
use Rattle.ec_complete.proofs.path_formula.within.Given as goal

abbrev pub invariant-loop-outer : goal.invariant-loop-outer
invariant-loop-outer l = record {
  bound : l.outer ≤ length l.steps;
  rest : within (map step_of (take l.outer l.steps)) (formula_tree l.formula) ≡ within (map step_of l.steps) (formula_tree l.fn.scope);
}

abbrev pub decreases-loop-outer : goal.decreases-loop-outer
decreases-loop-outer l = l.outer
