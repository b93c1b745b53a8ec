use Rattle.std.proofs.Common.{◌≡◌, drop}
use Rattle.ec_walk.specs.Faults.{binders_fault}
use Rattle.ec_walk.proofs.faults.binders_fault.Given as goal

abbrev pub invariant-loop-variable : goal.invariant-loop-variable
invariant-loop-variable l = binders_fault l.names l.bound (drop l.variable-index l.variables) ≡ binders_fault l.names l.fn.outside l.variables
