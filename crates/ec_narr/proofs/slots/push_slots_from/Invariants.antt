use Rattle.std.proofs.Common.{◌≡◌, ◌++◌, ◌+ℤ◌, map, pos}
use Rattle.std.specs.List.{flat_map, range_with_len}
use Rattle.ec_listing.specs.Slots.{time_slots}
use Rattle.ec_narr.specs.Slots.{slots_view}
use Rattle.ec_narr.proofs.slots.push_slots_from.Given as goal

abbrev pub invariant-loop-step : goal.invariant-loop-step
invariant-loop-step l = slots_view l.out.items ≡ slots_view l.fn.out.items ++ flat_map (time_slots l.signature) (map (λ k. l.first.0 +ℤ pos k) (range_with_len 0 l.step))
