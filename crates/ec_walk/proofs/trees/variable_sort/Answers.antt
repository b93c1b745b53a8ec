use Rattle.std.proofs.Common.{◌∙◌}
use Rattle.ec_walk.proofs.TreeLemmas.{unknown_sort}
use Rattle.ec_walk.proofs.trees.variable_sort.Goals as goal

pub returns-in-None-sort : goal.returns-in-None-sort
returns-in-None-sort c = c.sorts.ensures ∙ unknown_sort c.args.names.now c.in-Some.sort.now _ c.in-Some.ensures c.in-None-sort.ensures
