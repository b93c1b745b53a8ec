use Rattle.std.proofs.Common.{◌≡◌, arith, ap, ◌∙◌, sym, take, map}
use Rattle.std.proofs.lemmas.Grind.{common_steps}
use Rattle.ec_logic.specs.TreeList.{terms_of}
use Rattle.ec_syntax.specs.View.{term_of}
use Rattle.ec_walk.specs.Scopes.{words}
use Rattle.ec_walk.specs.Trees.{term_tree}
use Rattle.ec_walk.proofs.TreeLemmas.{term_trees_of}
use Rattle.ec_walk.proofs.trees.+term_tree.Goals as goal

pub term_trees-returns : goal.term_trees-returns
term_trees-returns t c =
    let names = c.args.names.now in
    let scope = words c.args.scope.now in
    let all : take c.loop-term.term-index c.args.terms.now ≡ c.args.terms.now = grind (arith, common_steps) in
    let done = ap terms_of (c.loop-term.invariant ∙ ap (map (λ a. term_tree names scope (term_of a))) all) in
    done ∙ sym (term_trees_of names scope c.args.terms.now)
