use Rattle.std.proofs.Common.{List, Bool, subst}
use Rattle.std.specs.Prelude.{IsSomeAnd}
use Rattle.ec_certificate.specs.Judged.{Accepted, Faulty, IsJudged}
use Rattle.ec_log.specs.Reader.{largest_log}
use Rattle.ec_evidence.proofs.Shown.{shown, not_shown}
use Rattle.ec_evidence.proofs.log.checked.Goals as goal

pub returns-in-Accepted-clause-found : goal.returns-in-Accepted-clause-found
returns-in-Accepted-clause-found g c = λ told theory name valid is audited.
    let list = c.args.listed.now in
    shown (g.F.Files.held c.args.files.now) name c.args.log.now theory valid list.models.items c.args.clauses list.ending (subst (λ (ts : List (List Bool)). IsSomeAnd (g.F.Files.held c.args.files.now c.args.log.now) (λ bytes. IsJudged largest_log c.args.clauses ts list.ending bytes Accepted)) c.deref.ensures.value (c.in-Accepted.ensures.checked told)) is audited

pub returns-in-Line-clause-found : goal.returns-in-Line-clause-found
returns-in-Line-clause-found g c = λ told theory name valid is audited.
    let list = c.args.listed.now in
    not_shown (g.F.Files.held c.args.files.now) name c.args.log.now theory valid list.models.items c.args.clauses list.ending c.in-Line.line (subst (λ (ts : List (List Bool)). IsSomeAnd (g.F.Files.held c.args.files.now c.args.log.now) (λ bytes. IsJudged largest_log c.args.clauses ts list.ending bytes (Faulty c.in-Line.line))) c.deref.ensures.value (c.in-Line.ensures.checked told)) is audited
