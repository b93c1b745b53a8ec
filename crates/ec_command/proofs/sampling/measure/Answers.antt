use Rattle.std.proofs.Common.{Err, subst}
use Rattle.ec_accept.specs.Accepted.{IsAccepted}
use Rattle.ec_accept.specs.Answers.{Answers}
use Rattle.ec_accept.specs.declared.fault.AcceptFault.{AcceptFault}
use Rattle.ec_theory.specs.Theories.{theory_of}
use Rattle.ec_command.specs.Sample.{sample_file}
use Rattle.ec_command.proofs.Sampled.{never_refused, size_is}
use Rattle.ec_command.proofs.sampling.measure.Goals as goal

pub returns-in-Ok-weight_of-clause-put : goal.returns-in-Ok-weight_of-clause-put
returns-in-Ok-weight_of-clause-put g c = λ told n held starts steps made.
    size_is n steps (g.F.Files.held c.args.files.now) made.made (record { weight = c.in-Ok-weight_of.weight; atoms = c.visible.result }) (theory_of c.in-Ok.accepted.theory) c.in-Ok.accepted.atoms
    (c.in-Ok.ensures.accepted told) c.in-Ok.ensures.numbered c.in-Ok-weight_of.ensures c.in-Ok.ensures.light c.visible.ensures.count

pub returns-in-Err-Refused-clause-put : goal.returns-in-Err-Refused-clause-put
returns-in-Err-Refused-clause-put g c = λ told n held starts steps made.
    never_refused n steps (g.F.Files.held c.args.files.now) made.made c.in-Err-Refused.refusal
    (subst (λ (fault : AcceptFault). Answers (IsAccepted (g.F.Files.held c.args.files.now) sample_file) (Err fault)) c.in-Err-Refused.field-0-is (c.in-Err-Refused.ensures.accepted told))
