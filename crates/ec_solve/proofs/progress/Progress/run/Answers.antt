use Rattle.std.proofs.Common.{rules, ◌≡◌, length, refl}
use Rattle.ec_solve.proofs.Stages.{done_models}
use Rattle.ec_solve.proofs.progress.Progress.run.Goals as goal

pub returns-clause-done : goal.returns-clause-done
returns-clause-done g c =
    let now = c.loop-self.self in
    let all : length now.truths.items ≡ c.args.bounds.models = search rules in
    done_models g.list c.args.bounds now.visible now.truths.items now.log now.solver c.args.bounds.models c.loop-self.invariant.0 refl all
