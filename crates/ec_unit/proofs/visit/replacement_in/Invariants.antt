use Rattle.std.proofs.Common.{◌≡◌, ◌≢◌, ℕ, ◌<◌, ◌≤◌, Some, false, slice_index_or}
use Rattle.ec_clause.specs.Literal.{Literal}
use Rattle.ec_clause.specs.Truth.{literal_value}
use Rattle.ec_trail.specs.TrailList.{truth_of}
use Rattle.ec_unit.proofs.visit.replacement_in.Given as goal

abbrev pub invariant-loop-place : goal.invariant-loop-place
invariant-loop-place l = (k : ℕ) (d : Literal) → l.from ≤ k → k < l.place → slice_index_or l.clause k d ≢ l.other → literal_value (truth_of l.trail) (slice_index_or l.clause k d) ≡ Some false
