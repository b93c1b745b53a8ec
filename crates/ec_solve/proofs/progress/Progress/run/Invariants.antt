use Rattle.std.proofs.Common.{◌≡◌, ◌-◌, ◌≤◌, length}
use Rattle.ec_solve.specs.Progress.{IsGoing}
use Rattle.ec_solve.proofs.progress.Progress.run.Given as goal

abbrev pub ghost-step : goal.ghost-step
ghost-step g a = g.list

abbrev pub invariant-loop-self : goal.invariant-loop-self
invariant-loop-self g l = IsGoing g.list l.fn.bounds.conflicts l.self.visible l.self.truths.items l.self.log l.self.solver × (l.self.visible ≡ l.fn.self.visible) × (length l.self.truths.items ≤ l.fn.bounds.models)

abbrev pub decreases-loop-self : goal.decreases-loop-self
decreases-loop-self g l = l.fn.bounds.models - length l.self.truths.items
