use Rattle.std.proofs.Common.{◌≡◌, ◌∷◌, [], arith, ◌∙◌}
use Rattle.ec_theory.specs.View.{formula_tree}
use Rattle.ec_path.specs.View.{step_of}
use Rattle.ec_complete.specs.Completion.{within}
use Rattle.ec_complete.proofs.Views.{within_back}
use Rattle.ec_complete.proofs.path_formula.within.Goals as goal

pub loop-outer-preserved : goal.loop-outer-preserved
loop-outer-preserved c =
    let made : formula_tree c.in_ok-formula.formula ≡ within (step_of c.index-steps-outer.result ∷ []) (formula_tree c.loop-outer.formula) = c.in_ok-formula.ensures in
    let back = within_back step_of c.args.steps.now c.loop-outer.outer c.index-steps-outer.result (formula_tree c.loop-outer.formula) (omega arith) c.loop-outer.invariant.bound c.index-steps-outer.is in
    record { bound = omega arith; rest = rw made (back ∙ c.loop-outer.invariant.rest) }
