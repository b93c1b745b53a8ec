use Rattle.std.proofs.Common.{sym, arith, length, ap}
use Rattle.std.proofs.lemmas.Result.{err_from_is_err_and}
use Rattle.ec_parse.specs.Formulas.{predicate}
use Rattle.ec_parse.proofs.FormulaSteps as steps
use Rattle.ec_parse.proofs.formula.atom.Goals as goal

pub returns-in_default : goal.returns-in_default
returns-in_default c = steps.else_reads _ _ c.in_default.ensures c.comparison.ensures

pub returns-in_err-args : goal.returns-in_err-args
returns-in_err-args c =
    let p = err_from_is_err_and c.from_residual.result c.from_residual.ensures.1 in
    rw (p.1, p.2, c.in-Some.ensures) (steps.predicate_fails _ _ _ c.in_err-args.ensures)

pub returns-then-goes_on : goal.returns-then-goes_on
returns-then-goes_on c =
    rw c.in-Some.ensures (steps.compared_reads _ _ _ c.in_ok-args.ensures.0 (sym c.if-goes_on.ensures) (rw c.in-Some.ensures at c.comparison-then-goes_on.ensures))

pub returns : goal.returns
returns c = (
  rw (c.in_ok-predicate.ensures, c.in-Some.ensures) (predicate c.in_ok-args.ensures.0 (sym c.if-goes_on.ensures)),
  omega arith,
  omega (arith, c.in_ok-args.ensures.2, ap length c.in-Some.ensures),
)
