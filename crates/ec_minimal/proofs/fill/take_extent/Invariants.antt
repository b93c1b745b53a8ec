use Rattle.std.proofs.Common.{◌≡◌, ℕ, length, slice_get, if◌then◌else◌}
use Rattle.ec_minimal.specs.Agrees.{in_span}
use Rattle.ec_minimal.proofs.fill.take_extent.Given as goal

abbrev pub invariant-loop-place : goal.invariant-loop-place
invariant-loop-place l = record {
  size : length l.target ≡ length l.fn.target;
  spans : (k : ℕ) → slice_get l.target k ≡ (if in_span l.first l.place k then slice_get l.source k else slice_get l.fn.target k);
}
