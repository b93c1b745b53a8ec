use Rattle.std.proofs.Common.{◌≢◌, ◌<◌, length}
use Rattle.ec_unit.proofs.seen.latest.Given as goal

abbrev pub invariant-loop-place : goal.invariant-loop-place
invariant-loop-place l = (l.first < length l.clause) × (l.second < length l.clause) × (l.first < l.place) × (l.second < l.place) × (l.first ≢ l.second)
