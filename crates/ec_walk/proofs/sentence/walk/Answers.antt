use Rattle.std.proofs.Common.{◌≡◌, ◌≤◌, None, [], length, ap, sym, ◌∙◌}
use Rattle.ec_syntax.specs.View.{formula_of}
use Rattle.ec_walk.specs.Faults.{opened, formula_fault}
use Rattle.ec_walk.specs.Variables.{closed_variables}
use Rattle.ec_walk.specs.Scopes.{words}
use Rattle.ec_walk.proofs.NestedLemmas.{nested, few_closed}
use Rattle.ec_walk.proofs.sentence.walk.Goals as goal

pub formula_tree-requires-clause-nested : goal.formula_tree-requires-clause-nested
formula_tree-requires-clause-nested c =
    let names = c.args.names.now in
    let f = formula_of c.args.tree.now in
    let scope = words c.deref-3.result.now in
    let same : scope ≡ opened [] (closed_variables f) =
    ap words c.deref-3.ensures.value ∙ c.in_ok-scope.ensures ∙ ap (opened []) (ap words c.deref.ensures.value ∙ c.in_ok-free.ensures) in
    let few : length scope ≤ 16 = rw same (few_closed f) in
    let none : None ≡ formula_fault names scope f =
    sym c.in_default.is ∙ c.in_ok-fault.ensures ∙ ap (λ s. formula_fault names (words s) f) (c.deref-2.ensures.value ∙ sym c.deref-3.ensures.value) in
    nested names scope f few none
