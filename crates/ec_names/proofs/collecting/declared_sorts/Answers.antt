use Rattle.ec_names.specs.Names.{sort_name, sorts_in}
use Rattle.ec_names.specs.View.{sorts_of}
use Rattle.ec_names.proofs.Firsts.{next-placed}
use Rattle.ec_names.proofs.collecting.declared_sorts.Goals as goal

pub loop-placed-preserved : goal.loop-placed-preserved
loop-placed-preserved c = next-placed sort_name sorts_in (sorts_of c.loop-placed.sorts.entries) (sorts_of c.add_sorts_of.new.sorts.entries) _ c.args.statements.now c.loop-placed.placed-index c.placed-item.result c.loop-placed-test.true c.placed-item.is c.in_ok-add_sorts_of.ensures c.loop-placed.invariant
