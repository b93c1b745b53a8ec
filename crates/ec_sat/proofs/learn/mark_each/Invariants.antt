use Rattle.std.proofs.Common.{◌≡◌, take}
use Rattle.ec_sat.specs.Reasons.{mark_all}
use Rattle.ec_sat.proofs.learn.mark_each.Given as goal

abbrev pub invariant-loop-lit : goal.invariant-loop-lit
invariant-loop-lit l = l.marks ≡ mark_all l.initial.marks (take l.lit-index l.lits)
