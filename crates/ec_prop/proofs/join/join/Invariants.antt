use Rattle.std.proofs.Common.{◌≡◌}
use Rattle.std.specs.Vec.Iter.{into_iter_items}
use Rattle.ec_folding.specs.Join.{join}
use Rattle.ec_prop.specs.Prop.{trees_of}
use Rattle.ec_prop.specs.Joining.{joined_with}
use Rattle.ec_prop.proofs.join.join.Given as goal

abbrev pub invariant-loop-part : goal.invariant-loop-part
invariant-loop-part l = joined_with l.joining (trees_of (into_iter_items l.part-iterator)) ≡ join l.conjunction (trees_of l.fn.parts.items)
