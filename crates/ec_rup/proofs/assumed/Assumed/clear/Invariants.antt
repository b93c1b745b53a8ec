use Rattle.std.proofs.Common.{◌≡◌, length}
use Rattle.ec_rup.specs.Marked.{AreMarked}
use Rattle.ec_rup.proofs.assumed.Assumed.clear.Given as goal

abbrev pub invariant-loop-variable : goal.invariant-loop-variable
invariant-loop-variable l = AreMarked l.self-inside.values l.self-inside.marked.items × (length l.self-inside.values ≡ length l.initial.self-inside.values)

abbrev pub decreases-loop-variable : goal.decreases-loop-variable
decreases-loop-variable l = length l.self-inside.marked.items
