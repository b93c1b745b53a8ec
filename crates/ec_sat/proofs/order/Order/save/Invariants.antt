use Rattle.std.proofs.Common.{◌≡◌, ◌+◌, ◌≤◌, length}
use Rattle.ec_sat.proofs.order.Order.save.Given as goal

abbrev pub invariant-loop-count : goal.invariant-loop-count
invariant-loop-count l =
    (l.self-inside.heap ≡ l.initial.self-inside.heap) × (length l.self-inside.saved.items ≡ l.initial.self-inside.heap + 1) × (l.count ≤ length l.trail.entries)

abbrev pub decreases-loop-count : goal.decreases-loop-count
decreases-loop-count l = l.count
