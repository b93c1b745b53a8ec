use Rattle.std.proofs.Common.{◌≡◌, ℕ, ◌<◌, ◌+◌, true, slice_get}
use Rattle.ec_minimal.specs.Agrees.{same_truth}
use Rattle.ec_minimal.proofs.group.agree_on.Given as goal

abbrev pub invariant-loop-place : goal.invariant-loop-place
invariant-loop-place l = (k : ℕ) → k < l.place → same_truth (slice_get l.a (l.first + k)) (slice_get l.b (l.first + k)) ≡ true
