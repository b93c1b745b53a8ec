use Rattle.std.proofs.Common.{◌≡◌, ◌∙◌, ◌+◌, ◌∷◌, List, ap, sym, drop, arith}
use Rattle.std.proofs.lemmas.List.{drop_more}
use Rattle.ec_folding.specs.Tree.{as_trees, tree}
use Rattle.ec_prop.specs.declared.tree.Prop.{Prop}
use Rattle.ec_prop.specs.Prop.{tree_of, trees_of}
use Rattle.ec_naming.specs.Variables.{variable_of}
use Rattle.ec_naming.proofs.Adding.{asserted_step, asserted_few, asserted_counts, atoms_more}
use Rattle.ec_encode.proofs.names.Names.+assert.Goals as goal

pub assert_each-loop-part-preserved : goal.assert_each-loop-part-preserved
assert_each-loop-part-preserved t c =
    let at = variable_of c.args.atoms.now in
    let i = c.loop-part.part-index in
    let p = tree_of c.part-item.result in
    let ps = as_trees (trees_of (drop (i + 1) c.args.parts.now)) in
    let rest = as_trees (trees_of (drop i c.args.parts.now)) in
    let is : rest ≡ tree p ps = ap (λ (xs : List Prop). as_trees (trees_of xs)) (drop_more c.args.parts.now i c.part-item.result c.loop-part-test.true ∙ ap (λ (x : Prop). x ∷ drop (i + 1) c.args.parts.now) (sym c.part-item.is)) in
    let next = c.in_ok-assert_tree.ensures.next in
    let n = c.loop-part.self.next in
    let m = c.assert_tree.new.self.next in
    let steps = asserted_counts at n m p ps rest is next in
    record {
      low = omega (arith, next, c.loop-part.invariant.low);
      high = omega (arith, steps, c.loop-part.invariant.high, c.assert_tree.ensures.variables);
      atoms = atoms_more c.args.atoms.now p ps rest is c.loop-part.invariant.atoms;
      few = asserted_few at n m p ps rest is next 4294967295 c.loop-part.self.clauses c.assert_tree.new.self.clauses c.in_ok-assert_tree.ensures.clauses c.loop-part.invariant.few;
      variables = c.assert_tree.ensures.variables ∙ c.loop-part.invariant.variables;
      next = sym steps ∙ c.loop-part.invariant.next;
      clauses = asserted_step at n m p ps rest is next c.loop-part.self.clauses c.assert_tree.new.self.clauses _ c.in_ok-assert_tree.ensures.clauses c.loop-part.invariant.clauses;
    }
