use Rattle.std.proofs.Common.{arith}
use Rattle.ec_sat.proofs.order.Order.bump.Goals as goal

pub bump_each-requires-then-hint-len : goal.bump_each-requires-then-hint-len
bump_each-requires-then-hint-len c =
    λ k d lt. omega (arith, (c.get.ensures.clause.in_range k d lt).1, c.loop-hint.invariant, c.requires.variables, c.bump_each.ensures)
