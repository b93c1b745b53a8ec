use Rattle.std.proofs.Common.{◌≡◌, ◌++◌, drop, map}
use Rattle.ec_theory.specs.Rows as rows
use Rattle.ec_declare.specs.Signatures.{sort_row}
use Rattle.ec_declare.proofs.rows.sort_rows.Given as goal

abbrev pub invariant-loop-sort : goal.invariant-loop-sort
invariant-loop-sort l = map rows.sort_of l.found.items ++ map (sort_row l.names) (drop l.sort l.names.sorts) ≡ map (sort_row l.names) l.names.sorts
