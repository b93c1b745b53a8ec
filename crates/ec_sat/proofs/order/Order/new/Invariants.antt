use Rattle.std.proofs.Common.{◌≡◌}
use Rattle.ec_sat.proofs.order.Order.new.Given as goal

abbrev pub invariant-loop-place : goal.invariant-loop-place
invariant-loop-place l = l.heap ≡ l.variables
