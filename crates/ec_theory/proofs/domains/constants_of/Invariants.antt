use Rattle.std.proofs.Common.{◌≡◌, map, filter, pos}
use Rattle.std.specs.List.{range_with_len}
use Rattle.ec_logic.specs.Universe.{is_constant_in}
use Rattle.ec_theory.specs.Values.{numbers_of}
use Rattle.ec_theory.proofs.domains.constants_of.Given as goal

abbrev pub invariant-loop-constant : goal.invariant-loop-constant
invariant-loop-constant l = numbers_of l.values.items ≡ map pos (filter (is_constant_in l.signature l.sort) (range_with_len 0 l.constant))
