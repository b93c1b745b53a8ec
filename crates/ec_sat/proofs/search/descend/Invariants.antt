use Rattle.std.proofs.Common.{◌≡◌, ◌-◌, length}
use Rattle.ec_unit.specs.Watching.{Watches}
use Rattle.ec_sat.specs.Ready.{IsKnown}
use Rattle.ec_sat.specs.Reasons.{IsSearching}
use Rattle.ec_sat.proofs.search.descend.Given as goal

abbrev pub invariant-loop-number : goal.invariant-loop-number
invariant-loop-number l =
    IsSearching l.clauses l.trail × Watches l.clauses l.watch × (l.order ≡ l.initial.order) × (l.trail.variables ≡ l.initial.trail.variables) × IsKnown l.clauses l.trail l.watch.seen l.known

abbrev pub decreases-loop-number : goal.decreases-loop-number
decreases-loop-number l = l.trail.variables - length l.trail.entries
