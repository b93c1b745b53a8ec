use Rattle.std.proofs.Common.{◌≡◌, drop}
use Rattle.ec_syntax.specs.View.{terms_of}
use Rattle.ec_walk.specs.Scopes.{words}
use Rattle.ec_walk.specs.Faults.{arguments_fault}
use Rattle.ec_walk.proofs.faults.+term_fault.Given as goal

abbrev pub invariant-arguments_fault-loop-place : goal.invariant-arguments_fault-loop-place
invariant-arguments_fault-loop-place l =
    arguments_fault l.names (words l.scope) (drop l.place l.sorts) (terms_of (drop l.place l.args))
    ≡ arguments_fault l.names (words l.scope) l.sorts (terms_of l.args)
