use Rattle.std.proofs.Common.{◌≡◌, drop, map}
use Rattle.ec_syntax.specs.View.{placed_of}
use Rattle.ec_names.specs.Names.{built_in_symbols, joined, symbol_name, symbols_in}
use Rattle.ec_names.specs.View.{continued}
use Rattle.ec_names.proofs.collecting.declared_symbols.Given as goal

abbrev pub invariant-loop-placed : goal.invariant-loop-placed
invariant-loop-placed l = continued symbol_name l.symbols (joined symbols_in (map placed_of (drop l.placed-index l.statements))) ≡ continued symbol_name built_in_symbols (joined symbols_in (map placed_of l.statements))
