use Rattle.std.proofs.Common.{◌≡◌, ◌≤◌, ◌+◌, length}
use Rattle.ec_sat.specs.Stops.{IsAsserting, StayListed}
use Rattle.ec_sat.proofs.learn.shorten.Given as goal

abbrev pub invariant-loop-ahead : goal.invariant-loop-ahead
invariant-loop-ahead l = (l.count ≤ l.place) × (length l.marks ≡ l.trail.variables + 1) × IsAsserting l.clauses l.trail.variables l.trail.entries l.marks l.hints.items l.place l.count × StayListed l.trail.entries l.initial.marks l.marks × (l.ahead ≤ length l.lower)

abbrev pub decreases-loop-ahead : goal.decreases-loop-ahead
decreases-loop-ahead l = l.ahead
