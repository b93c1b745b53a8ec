use Rattle.ec_names.specs.Names.{range_sort, ranges_in}
use Rattle.ec_names.specs.View.{ranges_of}
use Rattle.ec_names.proofs.Firsts.{next-placed}
use Rattle.ec_names.proofs.collecting.declared_ranges.Goals as goal

pub loop-placed-preserved : goal.loop-placed-preserved
loop-placed-preserved c = next-placed range_sort ranges_in (ranges_of c.loop-placed.ranges.entries) (ranges_of c.add_range.new.ranges.entries) _ c.args.statements.now c.loop-placed.placed-index c.placed-item.result c.loop-placed-test.true c.placed-item.is c.in_ok-add_range.ensures c.loop-placed.invariant
