use Rattle.std.proofs.Common.{◌≡◌, ◌+◌, length}
use Rattle.ec_sat.proofs.order.Order.bump_each.Given as goal

abbrev pub invariant-loop-lit : goal.invariant-loop-lit
invariant-loop-lit l =
    (l.self-inside.heap ≡ l.initial.self-inside.heap) × (length l.self-inside.saved.items ≡ l.initial.self-inside.heap + 1)
