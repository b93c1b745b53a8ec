use Rattle.std.proofs.Common.{◌≡◌, drop, map, []}
use Rattle.ec_syntax.specs.View.{placed_of}
use Rattle.ec_names.specs.Names.{itself, joined, noninertial_in}
use Rattle.ec_names.specs.View.{continued}
use Rattle.ec_names.proofs.collecting.declared_noninertial.Given as goal

abbrev pub invariant-loop-placed : goal.invariant-loop-placed
invariant-loop-placed l = continued itself l.names.keys (joined noninertial_in (map placed_of (drop l.placed-index l.statements))) ≡ continued itself [] (joined noninertial_in (map placed_of l.statements))
