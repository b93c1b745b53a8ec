use Rattle.std.proofs.Common.{◌≡◌, take, map}
use Rattle.ec_theory.specs.Rows.{constant_of}
use Rattle.ec_theory.proofs.copies.copy_constants.Given as goal

abbrev pub invariant-loop-row : goal.invariant-loop-row
invariant-loop-row l = map constant_of l.copies.items ≡ map constant_of (take l.row-index l.rows)
