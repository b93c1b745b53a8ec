use Rattle.std.proofs.Common.{arith}
use Rattle.ec_names.specs.Names.{symbol_name, symbols_in}
use Rattle.ec_names.proofs.Firsts.{next-placed, placed-few}
use Rattle.ec_names.proofs.collecting.declared_symbols.Goals as goal

pub add_symbols-requires : goal.add_symbols-requires
add_symbols-requires c =
    let few = placed-few symbol_name symbols_in c.loop-placed.symbols _ c.args.statements.now c.loop-placed.placed-index c.placed-item.result c.loop-placed-test.true c.placed-item.is c.loop-placed.invariant in
    omega (arith, few, c.requires)

pub loop-placed-preserved : goal.loop-placed-preserved
loop-placed-preserved c = next-placed symbol_name symbols_in c.loop-placed.symbols c.add_symbols.new.symbols _ c.args.statements.now c.loop-placed.placed-index c.placed-item.result c.loop-placed-test.true c.placed-item.is c.in_ok-add_symbols.ensures c.loop-placed.invariant
