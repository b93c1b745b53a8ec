use Rattle.std.proofs.Common.{◌≡◌, ◌∙◌, ◌+◌, ◌∷◌, List, ap, sym, drop, arith}
use Rattle.std.proofs.lemmas.List.{drop_more}
use Rattle.std.proofs.lemmas.Result.{on_ok_weaker}
use Rattle.ec_folding.specs.Tree.{as_trees, tree}
use Rattle.ec_prop.specs.declared.tree.Prop.{Prop}
use Rattle.ec_prop.specs.Prop.{tree_of, trees_of}
use Rattle.ec_naming.specs.Variables.{variable_of}
use Rattle.ec_naming.proofs.Adding.{range_names, few_and, few_or, named_and, named_or, lits_step, clauses_step, few_step, counts_step, atoms_more}
use Rattle.ec_encode.proofs.names.Names.+name.Goals as goal

pub name_all-name_and-requires-clause-range : goal.name_all-name_and-requires-clause-range
name_all-name_and-requires-clause-range t c =
    let ps = as_trees (trees_of c.args.parts.now) in
    range_names c.args.atoms.now c.args.self.now.variables _ c.args.self.now.next ps _ c.name_each.ensures.variables (c.deref.ensures.value ∙ c.in_ok-conjuncts.ensures.literals) c.requires.enough c.requires.low (omega (arith, c.requires.high)) c.requires.atoms

pub name_all-name_and-requires-clause-few : goal.name_all-name_and-requires-clause-few
name_all-name_and-requires-clause-few t c =
    let ps = as_trees (trees_of c.args.parts.now) in
    few_and (variable_of c.args.atoms.now) c.args.self.now.next 4294967295 ps c.args.self.now.clauses c.name_each.new.self.clauses c.deref.result.now c.in_ok-conjuncts.ensures.clauses (c.deref.ensures.value ∙ c.in_ok-conjuncts.ensures.literals) c.requires.few

pub name_all-returns-clause-clauses : goal.name_all-returns-clause-clauses
name_all-returns-clause-clauses t c =
    let ps = as_trees (trees_of c.args.parts.now) in
    on_ok_weaker c.name_and.result
    (named_and (variable_of c.args.atoms.now) c.args.self.now.next c.name_each.new.self.next ps c.args.self.now.clauses c.name_each.new.self.clauses c.name_and.new.self.clauses c.deref.result.now c.in_ok-conjuncts.ensures.clauses (c.deref.ensures.value ∙ c.in_ok-conjuncts.ensures.literals) c.in_ok-conjuncts.ensures.next)
    c.name_and.ensures.ok

pub name_any-name_or-requires-clause-range : goal.name_any-name_or-requires-clause-range
name_any-name_or-requires-clause-range t c =
    let ps = as_trees (trees_of c.args.parts.now) in
    range_names c.args.atoms.now c.args.self.now.variables _ c.args.self.now.next ps _ c.name_each.ensures.variables (c.deref.ensures.value ∙ c.in_ok-disjuncts.ensures.literals) c.requires.enough c.requires.low (omega (arith, c.requires.high)) c.requires.atoms

pub name_any-name_or-requires-clause-few : goal.name_any-name_or-requires-clause-few
name_any-name_or-requires-clause-few t c =
    let ps = as_trees (trees_of c.args.parts.now) in
    few_or (variable_of c.args.atoms.now) c.args.self.now.next 4294967295 ps c.args.self.now.clauses c.name_each.new.self.clauses c.deref.result.now c.in_ok-disjuncts.ensures.clauses (c.deref.ensures.value ∙ c.in_ok-disjuncts.ensures.literals) c.requires.few

pub name_any-returns-clause-clauses : goal.name_any-returns-clause-clauses
name_any-returns-clause-clauses t c =
    let ps = as_trees (trees_of c.args.parts.now) in
    on_ok_weaker c.name_or.result
    (named_or (variable_of c.args.atoms.now) c.args.self.now.next c.name_each.new.self.next ps c.args.self.now.clauses c.name_each.new.self.clauses c.name_or.new.self.clauses c.deref.result.now c.in_ok-disjuncts.ensures.clauses (c.deref.ensures.value ∙ c.in_ok-disjuncts.ensures.literals) c.in_ok-disjuncts.ensures.next)
    c.name_or.ensures.ok

pub name_each-loop-part-preserved : goal.name_each-loop-part-preserved
name_each-loop-part-preserved t c =
    let at = variable_of c.args.atoms.now in
    let i = c.loop-part.part-index in
    let p = tree_of c.part-item.result in
    let ps = as_trees (trees_of (drop (i + 1) c.args.parts.now)) in
    let rest = as_trees (trees_of (drop i c.args.parts.now)) in
    let is : rest ≡ tree p ps = ap (λ (xs : List Prop). as_trees (trees_of xs)) (drop_more c.args.parts.now i c.part-item.result c.loop-part-test.true ∙ ap (λ (x : Prop). x ∷ drop (i + 1) c.args.parts.now) (sym c.part-item.is)) in
    let next = c.in_ok-lit.ensures.next in
    let n = c.loop-part.self.next in
    let m = c.name.new.self.next in
    let steps = counts_step at n m p ps rest is next in
    record {
      low = omega (arith, next, c.loop-part.invariant.low);
      high = omega (arith, steps, c.loop-part.invariant.high, c.name.ensures.variables);
      atoms = atoms_more c.args.atoms.now p ps rest is c.loop-part.invariant.atoms;
      few = few_step at n m p ps rest is next 4294967295 c.loop-part.self.clauses c.name.new.self.clauses c.in_ok-lit.ensures.clauses c.loop-part.invariant.few;
      variables = c.name.ensures.variables ∙ c.loop-part.invariant.variables;
      next = sym steps ∙ c.loop-part.invariant.next;
      lits = lits_step at n m p ps rest is next _ _ _ c.in_ok-lit.lit c.in_ok-push.ensures.items c.in_ok-lit.ensures.literal c.loop-part.invariant.lits;
      clauses = clauses_step at n m p ps rest is next c.loop-part.self.clauses c.name.new.self.clauses _ c.in_ok-lit.ensures.clauses c.loop-part.invariant.clauses;
    }
