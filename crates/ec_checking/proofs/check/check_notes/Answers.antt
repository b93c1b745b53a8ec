use Rattle.std.proofs.Common.{◌+◌, IsTrue, Err, subst, ◌∙◌, arith}
use Rattle.std.specs.Prelude.{IsSomeAnd}
use Rattle.ec_log.specs.Reader.{IsNext}
use Rattle.ec_log.specs.Reading.{view}
use Rattle.ec_checking.specs.Checked.{IsNextLine, IsBehindEnd}
use Rattle.ec_checking.specs.Walk.{IsTurn}
use Rattle.ec_checking.proofs.CheckLemmas.{at-more, err-checked, fault-checked, end-checked, log-shown}
use Rattle.ec_checking.proofs.check.check_notes.Goals as goal

pub returns-in-Err-clause-checked : goal.returns-in-Err-clause-checked
returns-in-Err-clause-checked g c = λ told.
    let now : IsTrue (g.F.Files.tells c.loop-number.files) = rw c.loop-number.invariant.tells told in
    let read = subst (λ h. IsNextLine c.loop-number.reader h c.loop-number.number (Err c.in-Err.end) c.next_line.new.reader) (c.loop-number.invariant.stays c.args.log.now) (c.in-Err.ensures.read now) in
    err-checked _ _ c.args.ending.now _ _ c.loop-number.number c.loop-number.walk c.loop-number.reader c.next_line.new.reader c.in-Err.end c.loop-number.invariant.at told read

pub returns-in-Ok-End-clause-checked : goal.returns-in-Ok-End-clause-checked
returns-in-Ok-End-clause-checked g c = λ told.
    let now : IsTrue (g.F.Files.tells c.loop-number.files) = rw c.loop-number.invariant.tells told in
    let later : IsTrue (g.F.Files.tells c.next_line.new.files) = rw c.in-Ok.ensures.tells now in
    let next = subst (λ h. IsSomeAnd h (λ log. IsNext c.loop-number.reader.place log (view c.in-Ok.line) c.next_line.new.reader)) (c.loop-number.invariant.stays c.args.log.now) (c.in-Ok.ensures.read now) in
    let takes = subst (λ t. IsTurn c.args.walk.now.checker.list c.args.truths.now c.args.ending.now c.loop-number.invariant.at.notes (view c.in-Ok.line) c.take.new.self t) c.in-Ok-End.field-0-is (c.in-Ok-End.ensures c.args.walk.now.checker.list c.loop-number.invariant.at.notes c.loop-number.invariant.at.keeps) in
    let behind = subst (λ h. IsBehindEnd c.next_line.new.reader.place h (c.loop-number.number + 1) c.check_end.result) (c.in-Ok.ensures.stays c.args.log.now ∙ c.loop-number.invariant.stays c.args.log.now) (c.check_end.ensures.read later) in
    end-checked _ _ c.args.ending.now _ _ c.loop-number.number c.loop-number.walk c.loop-number.reader c.next_line.new.reader (view c.in-Ok.line) c.check_end.result c.loop-number.invariant.at told c.in-Ok.ensures.used next takes behind

pub returns-in-Ok-Fault-clause-checked : goal.returns-in-Ok-Fault-clause-checked
returns-in-Ok-Fault-clause-checked g c = λ told.
    let now : IsTrue (g.F.Files.tells c.loop-number.files) = rw c.loop-number.invariant.tells told in
    let next = subst (λ h. IsSomeAnd h (λ log. IsNext c.loop-number.reader.place log (view c.in-Ok.line) c.next_line.new.reader)) (c.loop-number.invariant.stays c.args.log.now) (c.in-Ok.ensures.read now) in
    let takes = subst (λ t. IsTurn c.args.walk.now.checker.list c.args.truths.now c.args.ending.now c.loop-number.invariant.at.notes (view c.in-Ok.line) c.take.new.self t) c.in-Ok-Fault.field-0-is (c.in-Ok-Fault.ensures c.args.walk.now.checker.list c.loop-number.invariant.at.notes c.loop-number.invariant.at.keeps) in
    fault-checked _ _ c.args.ending.now _ _ c.loop-number.number c.loop-number.walk c.loop-number.reader c.next_line.new.reader (view c.in-Ok.line) c.loop-number.invariant.at told c.in-Ok.ensures.used next takes

pub loop-number-preserved : goal.loop-number-preserved
loop-number-preserved g c =
    let next = λ (told : IsTrue (g.F.Files.tells c.args.files.now)). (
    let now : IsTrue (g.F.Files.tells c.loop-number.files) = rw c.loop-number.invariant.tells told in
    subst (λ h. IsSomeAnd h (λ log. IsNext c.loop-number.reader.place log (view c.in-Ok.line) c.next_line.new.reader)) (c.loop-number.invariant.stays c.args.log.now) (c.in-Ok.ensures.read now)) in
    let takes = subst (λ t. IsTurn c.args.walk.now.checker.list c.args.truths.now c.args.ending.now c.loop-number.invariant.at.notes (view c.in-Ok.line) c.take.new.self t) c.in-Ok-Note.field-0-is (c.in-Ok-Note.ensures c.args.walk.now.checker.list c.loop-number.invariant.at.notes c.loop-number.invariant.at.keeps) in
    record {
      at = at-more _ _ _ _ c.loop-number.number c.loop-number.walk c.take.new.self c.loop-number.reader c.next_line.new.reader (view c.in-Ok.line) c.loop-number.invariant.at c.in-Ok.ensures.used next takes;
      stays = λ other. c.in-Ok.ensures.stays other ∙ c.loop-number.invariant.stays other;
      failed_starts = c.in-Ok.ensures.failed_starts ∙ c.loop-number.invariant.failed_starts;
      tells = c.in-Ok.ensures.tells ∙ c.loop-number.invariant.tells;
      faults = omega (arith, c.in-Ok.ensures.faults, c.loop-number.invariant.faults);
      absences = omega (arith, c.in-Ok.ensures.absences, c.loop-number.invariant.absences);
    }

pub returns-in-Ok-End-clause-shown : goal.returns-in-Ok-End-clause-shown
returns-in-Ok-End-clause-shown g c = λ all.
    let takes = subst (λ t. IsTurn c.args.walk.now.checker.list c.args.truths.now c.args.ending.now c.loop-number.invariant.at.notes (view c.in-Ok.line) c.take.new.self t) c.in-Ok-End.field-0-is (c.in-Ok-End.ensures c.args.walk.now.checker.list c.loop-number.invariant.at.notes c.loop-number.invariant.at.keeps) in
    log-shown _ _ c.args.ending.now _ _ c.loop-number.number c.loop-number.walk c.loop-number.reader (view c.in-Ok.line) c.loop-number.invariant.at takes
