use Rattle.std.proofs.Common.{◌≡◌, drop}
use Rattle.ec_names.specs.View.{role_of}
use Rattle.ec_declare.specs.Faults.{argument_fault, first_fault}
use Rattle.ec_declare.proofs.sorts.arguments_fault.Given as goal

abbrev pub invariant-loop-sort : goal.invariant-loop-sort
invariant-loop-sort l = first_fault (argument_fault l.names (role_of l.role)) (drop l.sort-index l.sorts) ≡ first_fault (argument_fault l.names (role_of l.role)) l.sorts
