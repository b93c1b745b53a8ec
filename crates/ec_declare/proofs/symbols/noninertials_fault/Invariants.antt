use Rattle.std.proofs.Common.{◌≡◌, drop}
use Rattle.ec_declare.specs.Faults.{first_fault, noninertial_fault}
use Rattle.ec_declare.proofs.symbols.noninertials_fault.Given as goal

abbrev pub invariant-loop-fluent : goal.invariant-loop-fluent
invariant-loop-fluent l = first_fault (noninertial_fault l.names) (drop l.fluent-index l.fluents) ≡ first_fault (noninertial_fault l.names) l.fluents
