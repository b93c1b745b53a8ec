use Rattle.ec_sat.specs.Run.{value_in}
use Rattle.ec_solve.proofs.Rows.{IsFilled}
use Rattle.ec_solve.proofs.progress.visible_truth.Given as goal

abbrev pub invariant-loop-place : goal.invariant-loop-place
invariant-loop-place l = IsFilled (value_in l.fn.solver.assignment) l.fn.visible l.place l.truth
