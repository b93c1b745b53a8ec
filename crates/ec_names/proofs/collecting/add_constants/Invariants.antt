use Rattle.std.proofs.Common.{◌≡◌, drop, map}
use Rattle.ec_names.specs.Names.{constant_entry, symbol_name}
use Rattle.ec_names.specs.View.{continued}
use Rattle.ec_names.proofs.collecting.add_constants.Given as goal

abbrev pub invariant-loop-name : goal.invariant-loop-name
invariant-loop-name l = continued symbol_name l.symbols (map (constant_entry l.sort) (drop l.name-index l.names)) ≡ continued symbol_name l.fn.symbols (map (constant_entry l.sort) l.names)
