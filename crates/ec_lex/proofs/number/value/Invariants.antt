use Rattle.std.proofs.Common.{◌≡◌, ◌+◌, take, min}
use Rattle.ec_lex.specs.Bytes as spec
use Rattle.ec_lex.proofs.number.value.Given as goal

abbrev pub invariant-loop-d : goal.invariant-loop-d
invariant-loop-d l = l.n ≡ min (spec.value (take l.d-index l.digits)) (1000000000 + 1)
