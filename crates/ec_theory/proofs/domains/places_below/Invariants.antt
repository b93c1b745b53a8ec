use Rattle.std.proofs.Common.{◌≡◌, map, pos}
use Rattle.std.specs.List.{range_with_len}
use Rattle.ec_theory.specs.Values.{numbers_of}
use Rattle.ec_theory.proofs.domains.places_below.Given as goal

abbrev pub invariant-loop-place : goal.invariant-loop-place
invariant-loop-place l = numbers_of l.values.items ≡ map pos (range_with_len 0 l.place)
