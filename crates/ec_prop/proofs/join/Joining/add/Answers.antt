use Rattle.std.proofs.Common.{◌≡◌, ◌++◌, ◌∷◌, ap, sym, ◌∙◌, List, rules, true, false, Bool, Vec, Global}
use Rattle.std.proofs.lemmas.Result.{on_ok_weaker}
use Rattle.ec_folding.specs.Tree as tree
use Rattle.ec_folding.specs.Tree.{as_trees}
use Rattle.ec_folding.specs.Join.{node, opened}
use Rattle.ec_folding.proofs.JoinTruth.{listed}
use Rattle.ec_prop.specs.declared.tree.Prop.{Prop, And, Or, the_lemmas}
use Rattle.ec_prop.specs.declared.join.Joining.{Joining}
use Rattle.ec_prop.specs.Prop.{tree_of, trees_of}
use Rattle.ec_prop.specs.Joining.{joined_with_unopened, joined_with, join_after}
use Rattle.ec_prop.proofs.join.Joining.add.Goals as goal

tree_of-And : (ps : Vec Prop Global) → tree_of (And ps) ≡ tree.all_of (as_trees (trees_of ps.items))
tree_of-And ps = search (rules, the_lemmas)

tree_of-Or : (ps : Vec Prop Global) → tree_of (Or ps) ≡ tree.any_of (as_trees (trees_of ps.items))
tree_of-Or ps = search (rules, the_lemmas)

opened_part : (conjunction decided s : Bool) (kept ps rest : List tree.Tree) (p : tree.Tree) → conjunction ≡ s → p ≡ node s (as_trees ps) → join_after conjunction decided kept (ps ++ opened conjunction rest) ≡ join_after conjunction decided kept (opened conjunction (p ∷ rest))
opened_part true decided true kept ps rest p e f = rw f (ap (λ (qs : List tree.Tree). join_after true decided kept (qs ++ opened true rest)) (sym (listed ps)))
opened_part false decided false kept ps rest p e f = rw f (ap (λ (qs : List tree.Tree). join_after false decided kept (qs ++ opened false rest)) (sym (listed ps)))
opened_part true decided false kept ps rest p e f = cc
opened_part false decided true kept ps rest p e f = cc

added : (s new : Joining) (p : tree.Tree) (ps : List tree.Tree) (b : Bool) → new.conjunction ≡ s.conjunction → s.conjunction ≡ b → p ≡ node b (as_trees ps) → ((rest : List tree.Tree) → joined_with_unopened new rest ≡ joined_with_unopened s (ps ++ rest)) → (rest : List tree.Tree) → joined_with new rest ≡ joined_with s (p ∷ rest)
added s new p ps b same e f h rest =
    h (opened new.conjunction rest) ∙ ap (λ (t : Bool). joined_with_unopened s (ps ++ opened t rest)) same ∙ opened_part s.conjunction s.decided b (trees_of s.kept.items) ps rest p e f

-- an And in a conj gives its parts
pub returns-then-self-clause-goes_on : goal.returns-then-self-clause-goes_on
returns-then-self-clause-goes_on c =
    on_ok_weaker c.keep_all.result
    (added c.args.self.now c.keep_all.new.self (tree_of c.args.part) (trees_of c.in-And.parts.items) true c.keep_all.ensures.kind c.if-self.true (ap tree_of c.in-And.is ∙ tree_of-And c.in-And.parts))
    c.keep_all.ensures.goes_on

-- an Or in a disj gives its parts
pub returns-then-not-self-clause-goes_on : goal.returns-then-not-self-clause-goes_on
returns-then-not-self-clause-goes_on c =
    on_ok_weaker c.keep_all-then-not-self.result
    (added c.args.self.now c.keep_all-then-not-self.new.self (tree_of c.args.part) (trees_of c.in-Or.parts.items) false c.keep_all-then-not-self.ensures.kind c.if-not-self.true (ap tree_of c.in-Or.is ∙ tree_of-Or c.in-Or.parts))
    c.keep_all-then-not-self.ensures.goes_on
