use Rattle.std.proofs.Common.{length}
use Rattle.std.specs.Prelude.{vec_capacity}
use Rattle.ec_unit.proofs.Growing.{HasForgotten}
use Rattle.ec_unit.proofs.seen.forget.Given as goal

abbrev pub invariant-loop-seen : goal.invariant-loop-seen
invariant-loop-seen l = HasForgotten l.initial.seen.items l.seen.items (vec_capacity l.initial.seen) (vec_capacity l.seen) l.fn.worked l.worked l.front

abbrev pub decreases-loop-seen : goal.decreases-loop-seen
decreases-loop-seen l = length l.seen.items
