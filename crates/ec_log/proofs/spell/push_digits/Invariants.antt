use Rattle.std.proofs.Common.{◌≡◌, ◌++◌, length}
use Rattle.ec_log.specs.Digits.{digits_of}
use Rattle.ec_log.specs.Log.{forbidden}
use Rattle.ec_log.proofs.spell.push_digits.Given as goal

abbrev pub invariant-loop-rest : goal.invariant-loop-rest
invariant-loop-rest l = l.line.items ++ digits_of (forbidden l.rest) ≡ l.fn.line.items ++ digits_of (forbidden l.lits)

abbrev pub decreases-loop-rest : goal.decreases-loop-rest
decreases-loop-rest l = length l.rest
