use Rattle.std.proofs.Common.{◌≡◌, map, filter}
use Rattle.std.specs.List.{range_with_len}
use Rattle.ec_logic.specs.Extent.{passing}
use Rattle.ec_logic.specs.Universe.{is_constant_in}
use Rattle.ec_atom.specs.Listing.{place_if}
use Rattle.ec_atom.proofs.making.values_of_constants.Given as goal

abbrev pub invariant-loop-constant : goal.invariant-loop-constant
invariant-loop-constant l = record {
  count : l.count ≡ passing (is_constant_in l.signature l.sort) 0 l.constant;
  places : l.places.items ≡ map (place_if (is_constant_in l.signature l.sort)) (range_with_len 0 l.constant);
  constants : l.constants.items ≡ filter (is_constant_in l.signature l.sort) (range_with_len 0 l.constant);
}
