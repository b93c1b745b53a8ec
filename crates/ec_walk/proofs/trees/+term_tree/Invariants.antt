use Rattle.std.proofs.Common.{◌≡◌, ◌+◌, ◌*◌, max, take, map}
use Rattle.ec_syntax.specs.View.{term_of}
use Rattle.ec_syntax.proofs.tree.Arg.TheLaws.{the_size}
use Rattle.ec_theory.specs.View as view
use Rattle.ec_walk.specs.Scopes.{words}
use Rattle.ec_walk.specs.Trees.{term_tree}
use Rattle.ec_walk.proofs.trees.+term_tree.Given as goal

-- each call is of a part, or of the same at a lower number
abbrev pub decreases-term_tree : goal.decreases-term_tree
decreases-term_tree l = 3 * goal.size-term_tree l

abbrev pub decreases-boxed_term_tree : goal.decreases-boxed_term_tree
decreases-boxed_term_tree l = 3 * goal.size-boxed_term_tree l + 1

abbrev pub decreases-term_trees : goal.decreases-term_trees
decreases-term_trees l = 3 * goal.size-term_trees l + 1

abbrev pub decreases-both_boxed_term_trees : goal.decreases-both_boxed_term_trees
decreases-both_boxed_term_trees l = 3 * max (the_size l.a.now) (the_size l.b.now) + 2

abbrev pub invariant-term_trees-loop-term : goal.invariant-term_trees-loop-term
invariant-term_trees-loop-term l =
    map view.term_tree l.each.items ≡ map (λ a. term_tree l.names (words l.scope) (term_of a)) (take l.term-index l.terms)
