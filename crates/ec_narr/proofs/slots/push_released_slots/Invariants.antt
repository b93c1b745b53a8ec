use Rattle.std.proofs.Common.{◌≡◌, ◌++◌, map, pos}
use Rattle.std.specs.List.{range_with_len}
use Rattle.ec_listing.specs.Slots.{released_slot}
use Rattle.ec_narr.specs.Slots.{slots_view}
use Rattle.ec_narr.proofs.slots.push_released_slots.Given as goal

abbrev pub invariant-loop-fluent : goal.invariant-loop-fluent
invariant-loop-fluent l = slots_view l.out.items ≡ slots_view l.fn.out.items ++ map (released_slot l.signature l.time.0) (map pos (range_with_len 0 l.fluent))
