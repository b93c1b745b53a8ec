use Rattle.std.proofs.Common.{◌≡◌, drop}
use Rattle.ec_declare.specs.Faults.{first_fault, sort_item_fault}
use Rattle.ec_declare.proofs.sorts.sorts_fault.Given as goal

abbrev pub invariant-loop-item : goal.invariant-loop-item
invariant-loop-item l = first_fault (sort_item_fault l.names) (drop l.item-index l.items) ≡ first_fault (sort_item_fault l.names) l.items
