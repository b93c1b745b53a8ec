use Rattle.std.proofs.Common.{◌≡◌, take, map}
use Rattle.ec_names.specs.Names.{sort_number}
use Rattle.ec_declare.proofs.rows.sort_numbers.Given as goal

abbrev pub invariant-loop-sort : goal.invariant-loop-sort
invariant-loop-sort l = l.numbers.items ≡ map (sort_number l.names) (take l.sort-index l.sorts)
