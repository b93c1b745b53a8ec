use Rattle.ec_names.specs.Names.{item_entry, sort_name}
use Rattle.ec_names.specs.View.{sorts_of}
use Rattle.ec_names.proofs.Firsts.{next-item}
use Rattle.ec_names.proofs.collecting.add_sorts.Goals as goal

pub loop-item-preserved : goal.loop-item-preserved
loop-item-preserved c = next-item sort_name item_entry (sorts_of c.loop-item.sorts.entries) (sorts_of c.add_sort.new.sorts.entries) _ c.args.items.now c.loop-item.item-index c.item-item.result c.loop-item-test.true c.item-item.is c.in_ok-add_sort.ensures c.loop-item.invariant
