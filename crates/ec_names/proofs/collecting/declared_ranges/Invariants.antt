use Rattle.std.proofs.Common.{◌≡◌, drop, map, []}
use Rattle.ec_syntax.specs.View.{placed_of}
use Rattle.ec_names.specs.Names.{joined, range_sort, ranges_in}
use Rattle.ec_names.specs.View.{continued, ranges_of}
use Rattle.ec_names.proofs.collecting.declared_ranges.Given as goal

abbrev pub invariant-loop-placed : goal.invariant-loop-placed
invariant-loop-placed l = continued range_sort (ranges_of l.ranges.entries) (joined ranges_in (map placed_of (drop l.placed-index l.statements))) ≡ continued range_sort [] (joined ranges_in (map placed_of l.statements))
