use Rattle.std.proofs.Common.{refl}
use Rattle.ec_engine.specs.declared.showing.ShowEnd.TheVariants as end
use Rattle.ec_engine.proofs.Endings.{show_ends}
use Rattle.ec_engine.proofs.showing.show.Goals as goal

pub returns-in-Err-Refused-clause-put : goal.returns-in-Err-Refused-clause-put
returns-in-Err-Refused-clause-put g c = λ told.
    rw c.refused.ensures (show_ends (g.F.Files.held c.args.files.now) c.args.file.now _ _ _ _ end.Refused c.in-Err-Refused.refusal c.refuse.result
    (rw c.in-Err-Refused.field-0-is at c.in-Err-Refused.ensures.accepted told, refl) c.refuse.ensures.same c.refuse.ensures.ok c.refuse.ensures.part)
