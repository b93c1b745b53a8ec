use Rattle.std.proofs.Common.{IsTrue, refl}
use Rattle.ec_engine.specs.Check.{unaccepted}
use Rattle.ec_engine.specs.declared.checking.CheckEnd.TheVariants as end
use Rattle.ec_engine.proofs.Endings.{check_ends}
use Rattle.ec_engine.proofs.checking.check.Goals as goal

pub returns-in-Ok-clause-put : goal.returns-in-Ok-clause-put
returns-in-Ok-clause-put g c = λ told.
    let now : IsTrue (g.F.Files.tells c.accept.new.files) = rw c.in-Ok.ensures.tells told in
    c.check_accepted.ensures.put now (g.F.Files.held c.args.files.now) c.args.file.now c.in-Ok.ensures.stays (c.in-Ok.ensures.accepted told) (c.in-Ok.ensures.parts told)

pub returns-in-Err-Refused-clause-put : goal.returns-in-Err-Refused-clause-put
returns-in-Err-Refused-clause-put g c = λ told.
    rw c.refused.ensures (check_ends (g.F.Files.held c.args.files.now) c.args.file.now c.args.list.now c.args.log.now _ _ _ _ end.Refused c.in-Err-Refused.refusal c.refuse.result
    (unaccepted (rw c.in-Err-Refused.field-0-is at c.in-Err-Refused.ensures.accepted told), refl)
    c.refuse.ensures.same c.refuse.ensures.ok c.refuse.ensures.part)
