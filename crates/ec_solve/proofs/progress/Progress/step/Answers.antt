use Rattle.std.proofs.Common.{◌≡◌, length, ap, ◌∙◌, arith}
use Rattle.std.proofs.lemmas.List.{length_push}
use Rattle.ec_certificate.specs.Shown.{visible_part}
use Rattle.ec_sat.specs.Run.{value_in}
use Rattle.ec_solve.proofs.Stages.{going_model, done_complete, done_conflicts}
use Rattle.ec_solve.proofs.progress.Progress.step.Goals as goal

pub returns-in_ok-keep_model-in-Model-clause-steps :
    goal.returns-in_ok-keep_model-in-Model-clause-steps
returns-in_ok-keep_model-in-Model-clause-steps g c =
    let old = c.args.self.now in
    let new = c.keep_model.new.self in
    let kept = c.in_ok-keep_model-in-Model.ensures in (
      going_model g.list c.args.bounds old.visible old.truths.items old.log c.next.new.notes old.solver c.next.new.self c.requires.0 c.in-Model.ensures.numbers new.log new.solver new.visible new.truths.items c.in-Model.ensures.searches kept.blocks kept.numbers kept.truths kept.visible,
      ap length kept.truths ∙ length_push old.truths.items (visible_part old.visible (value_in c.next.new.self.assignment)),
    )

pub returns-in-Exhausted-clause-steps : goal.returns-in-Exhausted-clause-steps
returns-in-Exhausted-clause-steps g c =
    let old = c.args.self.now in
    let count : c.len.result ≡ length old.truths.items = omega (arith, c.len.ensures) in
    done_complete g.list c.args.bounds old.visible old.truths.items old.log c.next.new.notes old.solver c.next.new.self c.requires.0 c.in-Exhausted.ensures.numbers c.len.result c.in-Exhausted.ensures.searches c.requires.1.0 count

pub returns-in-Conflicts-clause-steps : goal.returns-in-Conflicts-clause-steps
returns-in-Conflicts-clause-steps g c =
    let old = c.args.self.now in
    done_conflicts g.list c.args.bounds old.visible old.truths.items old.log c.next.new.notes old.solver c.next.new.self c.requires.0 c.in-Conflicts.ensures.numbers c.in-Conflicts.ensures.searches c.requires.1.0
