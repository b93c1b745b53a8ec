use Rattle.std.proofs.Common.{◌≡◌, ◌<◌, ℕ, length, slice_index_or}
use Rattle.std.specs.Prelude.{vec_capacity}
use Rattle.ec_clause.specs.ClauseList.{clause_at}
use Rattle.ec_unit.specs.Settling.{AddsImplied}
use Rattle.ec_unit.specs.Leaning.{Follows, Grows, HasTrue}
use Rattle.ec_unit.proofs.table.examine_short.Given as goal

abbrev pub invariant-loop-number : goal.invariant-loop-number
invariant-loop-number l = AddsImplied l.clauses l.initial.trail l.trail × (vec_capacity l.seen ≡ vec_capacity l.initial.seen) × Follows l.seen.items l.trail.entries × Grows l.initial.seen.items l.seen.items × ((k d : ℕ) → k < l.number-index → length (clause_at l.clauses (slice_index_or l.short k d)) < 2 → HasTrue l.seen.items (clause_at l.clauses (slice_index_or l.short k d)))
