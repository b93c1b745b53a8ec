use Rattle.std.proofs.Common.{ap}
use Rattle.ec_theory.specs.View.{formula_tree}
use Rattle.ec_path.specs.View.{step_of}
use Rattle.ec_complete.proofs.RoomLemmas.{low_body, body_shifts}
use Rattle.ec_complete.proofs.path_formula.add_bodies.Goals as goal

pub shift-requires : goal.shift-requires
shift-requires c =
    let body = formula_tree c.in-Body.body.now in
    let low = low_body step_of c.args.steps.now c.loop-step.step-index c.step-item.result body c.loop-step-test.true c.step-item.is (ap step_of c.in-Body.is) c.loop-step.invariant.low in
    body_shifts c.loop-step.inner body low c.loop-step.invariant.few
