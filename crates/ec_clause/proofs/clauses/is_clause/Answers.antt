use Rattle.std.proofs.Common.{sym, subst, take, arith}
use Rattle.ec_clause.proofs.Distinct.{Lacks, clause_more, lacks_before}
use Rattle.ec_clause.proofs.clauses.is_clause.Goals as goal

pub returns-then-has_variable : goal.returns-then-has_variable
returns-then-has_variable c = (
  λ h. cc,
  λ h. absurd (c.if-has_variable.ensures.yes (subst (λ v. Lacks v (take c.loop-place.place c.args.lits.now)) (sym c.variable-in-loop-place.ensures.variable) (lacks_before c.args.variables c.args.lits.now c.loop-place.place c.index-lits-place.result h (omega arith) c.index-lits-place.is))),
)

pub loop-place-preserved : goal.loop-place-preserved
loop-place-preserved c =
    clause_more c.args.variables c.args.lits.now c.loop-place.place c.index-lits-place.result c.loop-place.invariant (omega arith) c.index-lits-place.is (omega arith) (omega arith)
    (subst (λ v. Lacks v (take c.loop-place.place c.args.lits.now)) c.variable-in-loop-place.ensures.variable c.if-has_variable.ensures.no)
