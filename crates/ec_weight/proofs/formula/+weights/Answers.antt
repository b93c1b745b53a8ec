use Rattle.std.proofs.Common.{◌≡◌, ◌∙◌, sym, ap}
use Rattle.ec_logic.specs.Universe.{universe_of}
use Rattle.ec_theory.specs.Sizes.{stopped}
use Rattle.ec_theory.specs.View.{formula_tree}
use Rattle.ec_weight.specs.Weight.{size, weight}
use Rattle.ec_weight.proofs.StopLemmas.{stopped_over}
use Rattle.ec_weight.proofs.FormulaLemmas.{formula_tree-ForAll, formula_tree-Exists}
use Rattle.ec_weight.proofs.formula.+weights.Goals as goal

pub weight-returns-in-ForAll : goal.weight-returns-in-ForAll
weight-returns-in-ForAll t c =
    let universe = universe_of c.args.signature.now in
    let is = ap formula_tree c.in-ForAll.is ∙ formula_tree-ForAll c.in-ForAll.sort c.in-ForAll.scope in
    let scope : c.weight-in-ForAll.result ≡ stopped (weight universe (formula_tree c.in-ForAll.scope.value)) = rw c.deref-in-ForAll.ensures at c.weight-in-ForAll.ensures in
    c.over_values-in-ForAll.ensures
    ∙ stopped_over c.size.result c.weight-in-ForAll.result (size universe c.in-ForAll.sort) (weight universe (formula_tree c.in-ForAll.scope.value)) c.size.ensures scope
    ∙ ap (λ f. stopped (weight universe f)) (sym is)

pub weight-returns-in-Exists : goal.weight-returns-in-Exists
weight-returns-in-Exists t c =
    let universe = universe_of c.args.signature.now in
    let is = ap formula_tree c.in-Exists.is ∙ formula_tree-Exists c.in-Exists.sort c.in-Exists.scope in
    let scope : c.weight-in-Exists.result ≡ stopped (weight universe (formula_tree c.in-Exists.scope.value)) = rw c.deref-in-Exists.ensures at c.weight-in-Exists.ensures in
    c.over_values-in-Exists.ensures
    ∙ stopped_over c.size-in-Exists.result c.weight-in-Exists.result (size universe c.in-Exists.sort) (weight universe (formula_tree c.in-Exists.scope.value)) c.size-in-Exists.ensures scope
    ∙ ap (λ f. stopped (weight universe f)) (sym is)
