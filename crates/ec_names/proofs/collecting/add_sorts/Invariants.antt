use Rattle.std.proofs.Common.{◌≡◌, drop, map}
use Rattle.ec_names.specs.Names.{item_entry, sort_name}
use Rattle.ec_names.specs.View.{continued, sorts_of}
use Rattle.ec_names.proofs.collecting.add_sorts.Given as goal

abbrev pub invariant-loop-item : goal.invariant-loop-item
invariant-loop-item l = continued sort_name (sorts_of l.sorts.entries) (map item_entry (drop l.item-index l.items)) ≡ continued sort_name (sorts_of l.fn.sorts.entries) (map item_entry l.items)
