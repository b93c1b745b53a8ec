use Rattle.std.proofs.Common.{◌-◌, map, arith, ap}
use Rattle.ec_logic.specs.Universe.{universe_of}
use Rattle.ec_theory.specs.View.{formula_tree}
use Rattle.ec_path.specs.View.{step_of}
use Rattle.ec_complete.proofs.RoomLemmas.{low_binder, ranges_shift}
use Rattle.ec_complete.proofs.path_formula.add_ranges.Goals as goal

pub add_shifted-requires : goal.add_shifted-requires
add_shifted-requires c =
    let scope = formula_tree c.in-Binder.scope.now in
    let low = low_binder step_of c.args.steps.now c.loop-step.step-index c.in-Binder.sort c.step-item.result scope c.loop-step-test.true c.step-item.is (ap step_of c.in-Binder.is) c.loop-step.invariant.low in
    rw c.deref.ensures.value (ranges_shift (c.loop-step.inner - 1) (universe_of c.args.signature.now) scope (map formula_tree c.in_ok-found-in-Binder.found.items) low (omega (arith, c.loop-step.invariant.few)) c.in_ok-found-in-Binder.ensures)
