use Rattle.std.proofs.Common.{◌≡◌, ◌+◌, drop}
use Rattle.ec_naming.specs.Listing.{names_taken_defining_each}
use Rattle.ec_prop.specs.Grounded.{definitions_of}
use Rattle.ec_encode.proofs.count.names_taken_defining_each.Given as goal

abbrev pub invariant-loop-definition : goal.invariant-loop-definition
invariant-loop-definition l = l.names + names_taken_defining_each (definitions_of (drop l.definition-index l.definitions)) ≡ names_taken_defining_each (definitions_of l.definitions)
