use Rattle.std.proofs.Common.{sym, subst, ◌∙◌}
use Rattle.std.specs.Prelude.{IsTrue}
use Rattle.ec_theory.specs.Theories.{theory_of}
use Rattle.ec_evidence.proofs.Shown.{found_after}
use Rattle.ec_evidence.proofs.finding.find.Goals as goal

pub returns-in-Err-clause-found : goal.returns-in-Err-clause-found
returns-in-Err-clause-found g c = λ told. c.in-Err.ensures.reads told c.args.log.now

pub returns-in-Ok-audited-clause-found : goal.returns-in-Ok-audited-clause-found
returns-in-Ok-audited-clause-found g c = λ told.
    let still = subst IsTrue (sym c.in-Ok.ensures.tells) told in
    found_after (g.F.Files.held c.args.files.now) (g.F.Files.held c.read_listed.new.files) c.args.list.now c.args.log.now (theory_of c.args.theory.now) c.requires.valid c.in-Ok.listed c.in-Ok-audited.clauses c.checked.result
    c.in-Ok.ensures.stays (c.in-Ok.ensures.reads told) c.in-Ok-audited.ensures.audits (c.checked.ensures.found still)

pub returns-in-Ok-audited-clause-stays : goal.returns-in-Ok-audited-clause-stays
returns-in-Ok-audited-clause-stays g c = λ name. c.checked.ensures.stays name ∙ c.in-Ok.ensures.stays name
