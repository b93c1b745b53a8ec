use Rattle.std.proofs.Common.{◌≡◌, take, map}
use Rattle.ec_theory.specs.Rows.{sort_of}
use Rattle.ec_theory.proofs.copies.copy_sorts.Given as goal

abbrev pub invariant-loop-row : goal.invariant-loop-row
invariant-loop-row l = map sort_of l.copies.items ≡ map sort_of (take l.row-index l.rows)
