use Rattle.std.proofs.Common.{◌≡◌, None}
use Rattle.std.specs.List.{flat_map, range_with_len, slice_index_or}
use Rattle.ec_ground.specs.Listed.{variable_if}
use Rattle.ec_ground.proofs.listing.list_variables.Given as goal

abbrev pub invariant-loop-atom : goal.invariant-loop-atom
invariant-loop-atom l = l.variables.items ≡ flat_map (λ k. variable_if (slice_index_or l.known k None) k) (range_with_len 0 l.atom)
