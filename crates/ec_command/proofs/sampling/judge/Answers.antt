use Rattle.ec_edge.specs.Causes.{Rose}
use Rattle.ec_command.proofs.Sampled.{check_stops, check_unrefused, checked}
use Rattle.ec_command.proofs.sampling.judge.Goals as goal

pub returns-in-Yes-clause-put : goal.returns-in-Yes-clause-put
returns-in-Yes-clause-put g c = λ told n held starts ending list steps listed.
    checked n steps (g.F.Files.held c.args.files.now) (g.F.Files.held c.check.new.files) c.check.ensures.stays ending list listed
    c.check.result c.check.new.out c.in-Yes.is (rw c.new-verdict.ensures at (c.check.ensures.put told))

pub returns-in-Refused-clause-put : goal.returns-in-Refused-clause-put
returns-in-Refused-clause-put g c = λ told n held starts ending list steps listed.
    check_unrefused n steps (g.F.Files.held c.args.files.now) (g.F.Files.held c.check.new.files) c.check.ensures.stays ending list listed
    c.in-Refused.refusal c.check.new.out (rw c.new-verdict.ensures at (c.in-Refused.ensures.put told))

pub returns-in-Files-clause-put : goal.returns-in-Files-clause-put
returns-in-Files-clause-put g c = λ told n held starts ending list steps listed.
    check_stops n steps (g.F.Files.held c.args.files.now) (g.F.Files.held c.check.new.files) c.check.ensures.stays ending list listed held
    (Rose starts (g.F.Files.failed_starts c.check.new.files))

pub returns-in-Memory-clause-put : goal.returns-in-Memory-clause-put
returns-in-Memory-clause-put g c = λ told n held starts ending list steps listed.
    check_stops n steps (g.F.Files.held c.args.files.now) (g.F.Files.held c.check.new.files) c.check.ensures.stays ending list listed held ⊥
