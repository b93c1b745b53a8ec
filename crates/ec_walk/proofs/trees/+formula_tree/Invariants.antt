use Rattle.std.proofs.Common.{◌≡◌, ◌+◌, ◌*◌, max, take, drop, map, length}
use Rattle.ec_syntax.specs.View.{formula_of, formulas_of}
use Rattle.ec_syntax.proofs.tree.Tree.TheLaws.{the_size}
use Rattle.ec_theory.specs.View as view
use Rattle.ec_walk.specs.Nested.{AreNested}
use Rattle.ec_walk.specs.Scopes.{words}
use Rattle.ec_walk.specs.Trees.{formula_tree}
use Rattle.ec_walk.proofs.trees.+formula_tree.Given as goal

-- each call is of a part, or of the same at a lower number
abbrev pub decreases-formula_tree : goal.decreases-formula_tree
decreases-formula_tree l = 3 * goal.size-formula_tree l

abbrev pub decreases-boxed_formula_tree : goal.decreases-boxed_formula_tree
decreases-boxed_formula_tree l = 3 * goal.size-boxed_formula_tree l + 1

abbrev pub decreases-formula_trees : goal.decreases-formula_trees
decreases-formula_trees l = 3 * goal.size-formula_trees l + 1

abbrev pub decreases-formula_tree_under : goal.decreases-formula_tree_under
decreases-formula_tree_under l = 3 * goal.size-formula_tree_under l + 2

abbrev pub decreases-both_boxed_formula_trees : goal.decreases-both_boxed_formula_trees
decreases-both_boxed_formula_trees l = 3 * max (the_size l.a.now) (the_size l.b.now) + 2

abbrev pub invariant-formula_trees-loop-tree : goal.invariant-formula_trees-loop-tree
invariant-formula_trees-loop-tree l = record {
  nested : AreNested (length (words l.scope)) (formulas_of (drop l.tree-index l.trees));
  done : map view.formula_tree l.each.items ≡ map (λ a. formula_tree l.names (words l.scope) (formula_of a)) (take l.tree-index l.trees);
}
