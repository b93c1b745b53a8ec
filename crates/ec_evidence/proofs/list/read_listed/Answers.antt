use Rattle.std.proofs.Common.{subst}
use Rattle.std.specs.Prelude.{Result}
use Rattle.ec_theory.specs.Theories.{theory_of}
use Rattle.ec_narr.specs.declared.listed.Listed.{Listed}
use Rattle.ec_evidence.specs.declared.finding.Finding.{Finding}
use Rattle.ec_evidence.specs.Steps.{IsOfText}
use Rattle.ec_evidence.proofs.TooLong.{reads_to}
use Rattle.ec_evidence.proofs.list.read_listed.Goals as goal

pub returns-in-Ok-clause-reads : goal.returns-in-Ok-clause-reads
returns-in-Ok-clause-reads g c = λ told.
    reads_to (g.F.Files.held c.args.files.now) c.args.list.now (theory_of c.args.theory.now) c.in-Ok.whole c.list_in.result (c.in-Ok.ensures.bytes told) c.list_in.ensures.reads

pub returns-in-Ok-clause-failed : goal.returns-in-Ok-clause-failed
returns-in-Ok-clause-failed g c = λ is. absurd (subst (λ (r : Result Listed Finding). IsOfText r) is c.list_in.ensures.text)

pub returns-in-Ok-clause-no_list : goal.returns-in-Ok-clause-no_list
returns-in-Ok-clause-no_list g c = λ is. absurd (subst (λ (r : Result Listed Finding). IsOfText r) is c.list_in.ensures.text)

pub returns-in-Ok-clause-no_log : goal.returns-in-Ok-clause-no_log
returns-in-Ok-clause-no_log g c = λ is. subst (λ (r : Result Listed Finding). IsOfText r) is c.list_in.ensures.text
