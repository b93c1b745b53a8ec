use Rattle.std.proofs.Common.{◌≡◌}
use Rattle.ec_sat.proofs.order.Order.bump.Given as goal

abbrev pub invariant-loop-hint : goal.invariant-loop-hint
invariant-loop-hint l = l.self ≡ l.initial.self
