use Rattle.std.proofs.Common.{◌≡◌, drop}
use Rattle.ec_names.specs.Names.{itself}
use Rattle.ec_names.specs.View.{continued}
use Rattle.ec_names.proofs.collecting.add_names.Given as goal

abbrev pub invariant-loop-name : goal.invariant-loop-name
invariant-loop-name l = continued itself l.set.keys (drop l.name-index l.names) ≡ continued itself l.fn.set.keys l.names
