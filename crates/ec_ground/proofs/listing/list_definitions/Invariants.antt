use Rattle.std.proofs.Common.{◌≡◌, drop, length, None}
use Rattle.std.specs.List.{flat_map, range_with_len, slice_index_or}
use Rattle.ec_prop.specs.Grounded.{definitions_of}
use Rattle.ec_ground.specs.Listed.{scope_at, definition_if}
use Rattle.ec_ground.proofs.listing.list_definitions.Given as goal

abbrev pub invariant-loop-atom : goal.invariant-loop-atom
invariant-loop-atom l = record {
  listed : definitions_of l.definitions.items ≡ flat_map (λ k. definition_if (slice_index_or l.known k None) (scope_at l.fn.effects l.fn.others k) k) (range_with_len 0 l.atom);
  effects_left : drop l.atom l.effects ≡ drop l.atom l.fn.effects;
  others_left : drop l.atom l.others ≡ drop l.atom l.fn.others;
  effects_count : length l.effects ≡ length l.known;
  others_count : length l.others ≡ length l.known;
}
