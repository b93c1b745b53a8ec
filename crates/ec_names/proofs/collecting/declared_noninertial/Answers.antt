use Rattle.ec_names.specs.Names.{itself, noninertial_in}
use Rattle.ec_names.proofs.Firsts.{next-placed}
use Rattle.ec_names.proofs.collecting.declared_noninertial.Goals as goal

pub loop-placed-preserved : goal.loop-placed-preserved
loop-placed-preserved c = next-placed itself noninertial_in c.loop-placed.names.keys c.add_noninertial.new.set.keys _ c.args.statements.now c.loop-placed.placed-index c.placed-item.result c.loop-placed-test.true c.placed-item.is c.in_ok-add_noninertial.ensures c.loop-placed.invariant
