use Rattle.std.proofs.Common.{length, map, take, drop}
use Rattle.ec_listing.specs.Passing.{IsReached}
use Rattle.ec_narr.specs.Slots.{slot_view}
use Rattle.ec_narr.proofs.passing.read_slots.Given as goal

abbrev pub invariant-loop-slot : goal.invariant-loop-slot
invariant-loop-slot l = IsReached (length l.fn.truth) (map slot_view l.slots) (map slot_view (take l.slot-index l.slots)) (map slot_view (drop l.slot-index l.slots)) l.truth l.bytes l.rest
