use Rattle.std.proofs.Common.{◌≡◌, arith, ap, ◌∙◌, sym, take, map}
use Rattle.std.proofs.lemmas.Grind.{common_steps}
use Rattle.ec_logic.specs.TreeList.{formulas_of}
use Rattle.ec_syntax.specs.View.{formula_of}
use Rattle.ec_walk.specs.Scopes.{words}
use Rattle.ec_walk.specs.Trees.{formula_tree}
use Rattle.ec_walk.proofs.TreeLemmas.{formula_trees_of}
use Rattle.ec_walk.proofs.trees.+formula_tree.Goals as goal

pub formula_trees-returns : goal.formula_trees-returns
formula_trees-returns t c =
    let names = c.args.names.now in
    let scope = words c.args.scope.now in
    let all : take c.loop-tree.tree-index c.args.trees.now ≡ c.args.trees.now = grind (arith, common_steps) in
    let done = ap formulas_of (c.loop-tree.invariant.done ∙ ap (map (λ a. formula_tree names scope (formula_of a))) all) in
    done ∙ sym (formula_trees_of names scope c.args.trees.now)
