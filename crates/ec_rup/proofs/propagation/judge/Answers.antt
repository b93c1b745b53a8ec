use Rattle.std.proofs.Common.{rules, ◌≡◌, subst}
use Rattle.std.proofs.lemmas.Result.{IfErr-weaker}
use Rattle.ec_clause.specs.ClauseList.{IsClause}
use Rattle.ec_clause.specs.Truth.{Truth}
use Rattle.ec_clause.specs.Step.{all_false, hints_fault}
use Rattle.ec_rup.specs.Refused.{Says, IsRefused}
use Rattle.ec_rup.proofs.Following.{refused_from}
use Rattle.ec_rup.proofs.propagation.judge.Goals as goal

pub returns-clause-err : goal.returns-clause-err
returns-clause-err c =
    let list = c.args.clauses.now in
    let lits = c.args.lits.now in
    let hints = c.args.hints.now in
    let clause : IsClause list.variables lits = search rules in
    let falses : c.make_false.new.assumed ≡ all_false list.variables lits = search rules in
    IfErr-weaker c.follow.result (Says (hints_fault list hints c.make_false.new.assumed 0)) (IsRefused list lits hints)
    (λ answer says. refused_from list lits hints answer clause (subst (λ (q : Truth). Says (hints_fault list hints q 0) answer) falses says)) c.follow.ensures.err
