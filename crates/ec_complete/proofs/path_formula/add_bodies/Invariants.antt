use Rattle.std.proofs.Common.{◌≡◌, ◌≤◌, ◌++◌, map, drop}
use Rattle.ec_logic.specs.ValidTheory.{binder_limit}
use Rattle.ec_logic.specs.Paths.{binders, bodies}
use Rattle.ec_theory.specs.View.{formula_tree}
use Rattle.ec_path.specs.View.{step_of}
use Rattle.ec_complete.specs.Room.{AreLow}
use Rattle.ec_complete.proofs.path_formula.add_bodies.Given as goal

abbrev pub invariant-loop-step : goal.invariant-loop-step
invariant-loop-step l = record {
  low : AreLow (map step_of (drop l.step-index l.steps));
  inner : l.inner ≡ binders (map step_of (drop l.step-index l.steps));
  few : l.inner ≤ binder_limit;
  rest : map formula_tree l.parts.items ++ bodies (map step_of (drop l.step-index l.steps)) ≡ map formula_tree l.fn.parts.items ++ bodies (map step_of l.steps);
}
