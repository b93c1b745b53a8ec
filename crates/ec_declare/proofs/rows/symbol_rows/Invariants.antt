use Rattle.std.proofs.Common.{◌≡◌, ◌++◌, drop, map}
use Rattle.ec_theory.specs.Rows as rows
use Rattle.ec_names.specs.Names.{symbols_of}
use Rattle.ec_names.specs.View.{role_of}
use Rattle.ec_declare.specs.Signatures.{rows_of, symbol_row}
use Rattle.ec_declare.proofs.rows.symbol_rows.Given as goal

abbrev pub invariant-loop-place : goal.invariant-loop-place
invariant-loop-place l = map rows.symbol_of l.found.items ++ map (symbol_row l.names) (symbols_of (role_of l.role) (drop l.place l.names.symbols)) ≡ rows_of l.names (role_of l.role)
