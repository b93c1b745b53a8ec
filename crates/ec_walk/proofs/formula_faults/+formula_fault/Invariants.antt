use Rattle.std.proofs.Common.{◌≡◌, drop}
use Rattle.ec_syntax.specs.View.{formulas_of}
use Rattle.ec_walk.specs.Scopes.{words}
use Rattle.ec_walk.specs.Faults.{formulas_fault}
use Rattle.ec_walk.proofs.formula_faults.+formula_fault.Given as goal

abbrev pub invariant-formulas_fault-loop-tree : goal.invariant-formulas_fault-loop-tree
invariant-formulas_fault-loop-tree l =
    formulas_fault l.names (words l.scope) (formulas_of (drop l.tree-index l.trees)) ≡ formulas_fault l.names (words l.scope) (formulas_of l.trees)
