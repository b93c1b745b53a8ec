use Rattle.std.proofs.Common.{◌≡◌, take, map}
use Rattle.ec_theory.specs.Rows.{symbol_of}
use Rattle.ec_theory.proofs.copies.copy_symbols.Given as goal

abbrev pub invariant-loop-row : goal.invariant-loop-row
invariant-loop-row l = map symbol_of l.copies.items ≡ map symbol_of (take l.row-index l.rows)
