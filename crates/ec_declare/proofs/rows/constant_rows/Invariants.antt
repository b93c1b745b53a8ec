use Rattle.std.proofs.Common.{◌≡◌, ◌++◌, drop, map}
use Rattle.ec_theory.specs.Rows as rows
use Rattle.ec_names.specs.Names.{constant_role, symbols_of}
use Rattle.ec_declare.specs.Signatures.{constant_row, constants_of}
use Rattle.ec_declare.proofs.rows.constant_rows.Given as goal

abbrev pub invariant-loop-place : goal.invariant-loop-place
invariant-loop-place l = map rows.constant_of l.found.items ++ map (constant_row l.names) (symbols_of constant_role (drop l.place l.names.symbols)) ≡ constants_of l.names
