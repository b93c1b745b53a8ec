use Rattle.std.proofs.Common.{◌≡◌, length, take}
use Rattle.ec_rup.proofs.Falsifying.{AreFalse}
use Rattle.ec_rup.proofs.propagation.make_false.Given as goal

abbrev pub invariant-loop-lit : goal.invariant-loop-lit
invariant-loop-lit l = AreFalse l.variables (take l.lit-index l.lits) l.assumed × (length l.assumed ≡ length l.initial.assumed)
