use Rattle.std.proofs.Common.{◌≡◌, ◌+◌, map, drop}
use Rattle.ec_logic.specs.Paths.{binders}
use Rattle.ec_path.specs.View.{step_of}
use Rattle.ec_complete.proofs.path_formula.count_binders.Given as goal

abbrev pub invariant-loop-step : goal.invariant-loop-step
invariant-loop-step l = l.count + binders (map step_of (drop l.step-index l.steps)) ≡ binders (map step_of l.steps)
