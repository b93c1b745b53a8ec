use Rattle.std.proofs.Common.{◌≡◌, drop}
use Rattle.ec_syntax.specs.View.{formulas_of}
use Rattle.ec_walk.specs.Scopes.{words, met_in_each}
use Rattle.ec_walk.proofs.variables.+collect.Given as goal

abbrev pub invariant-collect_in_each-loop-tree : goal.invariant-collect_in_each-loop-tree
invariant-collect_in_each-loop-tree l =
    met_in_each (words l.scope) (words l.found.items) (formulas_of (drop l.tree-index l.trees))
    ≡ met_in_each (words l.scope) (words l.fn.found.items) (formulas_of l.trees)
