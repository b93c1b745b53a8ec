use Rattle.std.proofs.Common.{◌-◌, length, get_or, refl}
use Rattle.ec_logic.specs.Axiom.{for_each}
use Rattle.ec_theory.specs.View.{formula_tree}
use Rattle.ec_axiom.proofs.ReleaseLemmas.{binders_more}
use Rattle.ec_axiom.proofs.release.for_each.Goals as goal

pub loop-passed-preserved : goal.loop-passed-preserved
loop-passed-preserved c =
    let sorts = c.args.sorts.now in
    binders_more sorts c.loop-passed.passed (get_or sorts (length sorts - 1 - c.loop-passed.passed) 0) (formula_tree c.loop-passed.formula) (formula_tree c.in_ok-formula.formula) (for_each sorts (formula_tree c.args.scope)) c.loop-passed-test.true refl c.in_ok-formula.ensures c.loop-passed.invariant
