use Rattle.std.proofs.Common.{◌≡◌, ℕ, ◌<◌, length, slice_index_or}
use Rattle.std.specs.Prelude.{vec_capacity}
use Rattle.ec_trail.specs.declared.trail.Entry.{Entry}
use Rattle.ec_unit.specs.Leaning.{seen_at, Grows}
use Rattle.ec_unit.proofs.seen.see.Given as goal

abbrev pub invariant-loop-place : goal.invariant-loop-place
invariant-loop-place l = (length l.seen.items ≡ l.place) × (vec_capacity l.seen ≡ vec_capacity l.initial.seen) × ((i : ℕ) (d : Entry) → i < l.place → seen_at l.seen.items i ≡ (slice_index_or l.trail.entries i d).lit) × Grows l.initial.seen.items l.seen.items
