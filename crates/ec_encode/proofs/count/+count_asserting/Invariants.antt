use Rattle.std.proofs.Common.{◌≡◌, ◌+◌, drop}
use Rattle.ec_folding.specs.Tree.{as_trees}
use Rattle.ec_naming.specs.Listing.{names_taken_asserting_each}
use Rattle.ec_prop.specs.Prop.{trees_of}
use Rattle.ec_encode.proofs.count.+count_asserting.Given as goal

abbrev pub invariant-names_taken_asserting_each-loop-part : goal.invariant-names_taken_asserting_each-loop-part
invariant-names_taken_asserting_each-loop-part l = l.names + names_taken_asserting_each (as_trees (trees_of (drop l.part-index l.parts))) ≡ names_taken_asserting_each (as_trees (trees_of l.parts))
