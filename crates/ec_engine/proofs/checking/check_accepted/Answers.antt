use Rattle.ec_theory.specs.Theories.{theory_of}
use Rattle.ec_engine.proofs.Finding.{found_before}
use Rattle.ec_engine.proofs.checking.check_accepted.Goals as goal

pub returns-clause-put : goal.returns-clause-put
returns-clause-put g c = λ told held file before accepted parts.
    c.tell.ensures.put held file accepted parts
    (found_before held (g.F.Files.held c.args.files.now) c.args.list.now c.args.log.now (theory_of c.args.accepted.now.theory) before c.find-finding.result (c.find-finding.ensures.found told))
