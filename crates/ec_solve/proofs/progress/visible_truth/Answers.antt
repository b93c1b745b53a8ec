use Rattle.std.proofs.Common.{rules, ◌≡◌, subst}
use Rattle.ec_sat.specs.Run.{value_in}
use Rattle.ec_solve.proofs.Rows.{IsFilled, filled_all}
use Rattle.ec_solve.proofs.progress.visible_truth.Goals as goal

pub returns : goal.returns
returns c =
    let f = value_in c.args.solver.now.assignment in
    let end : c.loop-place.place ≡ c.args.visible = search rules in
    filled_all f c.args.visible c.loop-place.truth (subst (λ k. IsFilled f c.args.visible k c.loop-place.truth) end c.loop-place.invariant)
