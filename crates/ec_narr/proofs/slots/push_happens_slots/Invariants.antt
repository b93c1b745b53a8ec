use Rattle.std.proofs.Common.{◌≡◌, ◌++◌, map, pos}
use Rattle.std.specs.List.{range_with_len}
use Rattle.ec_listing.specs.Slots.{happens_slot}
use Rattle.ec_narr.specs.Slots.{slots_view}
use Rattle.ec_narr.proofs.slots.push_happens_slots.Given as goal

abbrev pub invariant-loop-event : goal.invariant-loop-event
invariant-loop-event l = slots_view l.out.items ≡ slots_view l.fn.out.items ++ map (happens_slot l.signature l.time.0) (map pos (range_with_len 0 l.event))
