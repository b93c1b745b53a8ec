use Rattle.std.proofs.Common.{◌≡◌, ℕ, ◌<◌, ◌≤◌, length, slice_index_or}
use Rattle.ec_trail.specs.declared.trail.Entry.{Entry}
use Rattle.ec_unit.specs.Leaning.{seen_at}
use Rattle.ec_unit.proofs.seen.agreeing.Given as goal

abbrev pub invariant-loop-place : goal.invariant-loop-place
invariant-loop-place l = (l.place ≤ length l.seen) × ((i : ℕ) (d : Entry) → i < l.place → seen_at l.seen i ≡ (slice_index_or l.trail.entries i d).lit)
