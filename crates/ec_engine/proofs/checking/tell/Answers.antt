use Rattle.std.proofs.Common.{refl}
use Rattle.ec_load.specs.Refusals.{refused, in_file}
use Rattle.ec_split.specs.Parts.{parts_of}
use Rattle.ec_theory.specs.Theories.{theory_of}
use Rattle.ec_engine.specs.Check.{no_list, no_log}
use Rattle.ec_engine.specs.declared.checking.CheckEnd.TheVariants as end
use Rattle.ec_engine.proofs.Endings.{by_unit, check_ends, check_line}
use Rattle.ec_engine.proofs.checking.tell.Goals as goal

pub returns-in-Yes-clause-put : goal.returns-in-Yes-clause-put
returns-in-Yes-clause-put g c = λ held file accepted parts found.
    rw c.shown.ensures (check_ends held file c.args.list.now c.args.log.now _ _ _ _ (λ (_ : Unit {0}). end.Yes c.in-Yes.ending) tt c.put_ending.result
    (record { theory = theory_of c.args.theory.now; accepted = accepted; shown = rw c.in-Yes.is at found }, refl)
    (by_unit c.put_ending.result) c.put_ending.ensures.ok c.put_ending.ensures.part)

pub returns-in-No-clause-put : goal.returns-in-No-clause-put
returns-in-No-clause-put g c = λ held file accepted parts found.
    rw c.wrong.ensures (check_ends held file c.args.list.now c.args.log.now _ _ _ _ (λ (_ : Unit {0}). end.No c.in-No.why) tt c.put_reason.result
    (record { theory = theory_of c.args.theory.now; accepted = accepted; wrong = rw c.in-No.is at found }, record { parts = parts_of c.args.theory.now; has = parts; is = refl })
    (by_unit c.put_reason.result) c.put_reason.ensures.ok c.put_reason.ensures.part)

pub returns-in-NoList-clause-put : goal.returns-in-NoList-clause-put
returns-in-NoList-clause-put g c = λ held file accepted parts found.
    rw c.refused.ensures (check_ends held file c.args.list.now c.args.log.now _ _ _ _ end.Refused (refused 1 (in_file c.args.list.now 0) c.args.list.now) c.refuse_file.result
    (no_list (theory_of c.args.theory.now) accepted (rw c.in-NoList.is at found), refl) c.refuse_file.ensures.same c.refuse_file.ensures.ok c.refuse_file.ensures.part)

pub returns-in-NoList-clause-line : goal.returns-in-NoList-clause-line
returns-in-NoList-clause-line g c = λ shown r is.
    check_line (refused 1 (in_file c.args.list.now 0) c.args.list.now) r _ _ c.refuse_file.result c.refused.result c.refused.ensures c.refuse_file.ensures.same (c.refuse_file.ensures.ok shown) is

pub returns-in-NoLog-clause-put : goal.returns-in-NoLog-clause-put
returns-in-NoLog-clause-put g c = λ held file accepted parts found.
    rw c.refused-in-NoLog.ensures (check_ends held file c.args.list.now c.args.log.now _ _ _ _ end.Refused (refused 1 (in_file c.args.log.now 0) c.args.log.now) c.refuse_file-in-NoLog.result
    (no_log (theory_of c.args.theory.now) accepted (rw c.in-NoLog.is at found), refl) c.refuse_file-in-NoLog.ensures.same c.refuse_file-in-NoLog.ensures.ok c.refuse_file-in-NoLog.ensures.part)

pub returns-in-NoLog-clause-line : goal.returns-in-NoLog-clause-line
returns-in-NoLog-clause-line g c = λ shown r is.
    check_line (refused 1 (in_file c.args.log.now 0) c.args.log.now) r _ _ c.refuse_file-in-NoLog.result c.refused-in-NoLog.result c.refused-in-NoLog.ensures c.refuse_file-in-NoLog.ensures.same (c.refuse_file-in-NoLog.ensures.ok shown) is
