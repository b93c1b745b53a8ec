use Rattle.std.proofs.Common.{◌≡◌, map}
use Rattle.std.specs.List.{range_with_len}
use Rattle.ec_logic.specs.Extent.{size_of}
use Rattle.ec_logic.specs.Universe.{extent_of}
use Rattle.ec_theory.specs.Rows.{signature_of}
use Rattle.ec_theory.specs.Sizes.{stopped}
use Rattle.ec_theory.proofs.sizes.sizes_before_symbols.Given as goal

abbrev pub invariant-loop-sort : goal.invariant-loop-sort
invariant-loop-sort l = l.sizes.items ≡ map (λ s. stopped (size_of (extent_of (signature_of l.rows) 0 0 s))) (range_with_len 0 l.sort)
