use Rattle.std.proofs.Common.{◌≡◌, ◌++◌, ◌*◌, drop}
use Rattle.ec_log.specs.Digits.{digits_of}
use Rattle.ec_checking.proofs.truth.digits_of.Given as goal

abbrev pub invariant-loop-group : goal.invariant-loop-group
invariant-loop-group l = l.digits.items ++ digits_of (drop (4 * l.group) l.truth) ≡ digits_of l.truth
