use Rattle.std.proofs.Common.{◌≡◌, ◌∙◌, sym, ap}
use Rattle.ec_logic.specs.Universe.{universe_of}
use Rattle.ec_theory.specs.Sizes.{stopped}
use Rattle.ec_theory.specs.View.{formula_tree}
use Rattle.ec_weight.specs.Weight.{size, weight, head_instances, clause_weight}
use Rattle.ec_weight.proofs.StopLemmas.{stopped_copies, stopped_over, stopped_under}
use Rattle.ec_weight.proofs.FormulaLemmas.{formula_tree-Implies, formula_tree-ForAll}
use Rattle.ec_weight.proofs.clause.+clauses.Goals as goal

pub clause_tree-returns-in-Implies-clause-weight : goal.clause_tree-returns-in-Implies-clause-weight
clause_tree-returns-in-Implies-clause-weight t c =
    let universe = universe_of c.args.signature.now in
    let g = formula_tree c.in-Implies.g.value in
    let h = formula_tree c.in-Implies.h.value in
    let is = ap formula_tree c.in-Implies.is ∙ formula_tree-Implies c.in-Implies.g c.in-Implies.h in
    let body : c.weight.result ≡ stopped (weight universe g) = rw c.deref.ensures at c.weight.ensures in
    let heads : c.clause_tree.result.heads ≡ stopped (head_instances universe h) = rw c.deref-in-Implies.ensures at c.clause_tree.ensures.heads in
    let rest : c.clause_tree.result.weight ≡ stopped (clause_weight universe h) = rw c.deref-in-Implies.ensures at c.clause_tree.ensures.weight in
    c.under_body.ensures.weight
    ∙ stopped_under c.clause_tree.result.heads c.weight.result c.clause_tree.result.weight (head_instances universe h) (weight universe g) (clause_weight universe h) heads body rest
    ∙ ap (λ f. stopped (clause_weight universe f)) (sym is)

pub clause_tree-returns-in-ForAll-clause-heads : goal.clause_tree-returns-in-ForAll-clause-heads
clause_tree-returns-in-ForAll-clause-heads t c =
    let universe = universe_of c.args.signature.now in
    let scope = formula_tree c.in-ForAll.scope.value in
    let is = ap formula_tree c.in-ForAll.is ∙ formula_tree-ForAll c.in-ForAll.sort c.in-ForAll.scope in
    let heads : c.clause_tree-in-ForAll.result.heads ≡ stopped (head_instances universe scope) = rw c.deref-in-ForAll.ensures at c.clause_tree-in-ForAll.ensures.heads in
    c.under_binder.ensures.heads
    ∙ stopped_copies c.size.result c.clause_tree-in-ForAll.result.heads (size universe c.in-ForAll.sort) (head_instances universe scope) c.size.ensures heads
    ∙ ap (λ f. stopped (head_instances universe f)) (sym is)

pub clause_tree-returns-in-ForAll-clause-weight : goal.clause_tree-returns-in-ForAll-clause-weight
clause_tree-returns-in-ForAll-clause-weight t c =
    let universe = universe_of c.args.signature.now in
    let scope = formula_tree c.in-ForAll.scope.value in
    let is = ap formula_tree c.in-ForAll.is ∙ formula_tree-ForAll c.in-ForAll.sort c.in-ForAll.scope in
    let rest : c.clause_tree-in-ForAll.result.weight ≡ stopped (clause_weight universe scope) = rw c.deref-in-ForAll.ensures at c.clause_tree-in-ForAll.ensures.weight in
    c.under_binder.ensures.weight
    ∙ stopped_over c.size.result c.clause_tree-in-ForAll.result.weight (size universe c.in-ForAll.sort) (clause_weight universe scope) c.size.ensures rest
    ∙ ap (λ f. stopped (clause_weight universe f)) (sym is)
