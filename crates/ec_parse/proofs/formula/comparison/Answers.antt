use Rattle.std.proofs.Common.{sym, arith, length, ap}
use Rattle.std.proofs.lemmas.Result.{err_from_is_err_and}
use Rattle.ec_parse.specs.Mark.{seen_all}
use Rattle.ec_parse.specs.Formulas.{comparison}
use Rattle.ec_parse.proofs.FormulaSteps as steps
use Rattle.ec_parse.proofs.formula.comparison.Goals as goal

pub returns-then-opens : goal.returns-then-opens
returns-then-opens c = λ a r d l. steps.no_opened (sym c.if-opens.ensures) d

pub returns-in_err-left : goal.returns-in_err-left
returns-in_err-left c =
    let p = err_from_is_err_and c.from_residual.result c.from_residual.ensures.1 in
    rw (p.1, p.2) (steps.left_side_fails _ _ c.in_err-left.ensures)

pub returns-in_default : goal.returns-in_default
returns-in_default c = λ a r d l. steps.no_op c.in_ok-left.ensures.0 c.in_ok-left.ensures.1 c.in_default.ensures d

pub returns-in_err-right : goal.returns-in_err-right
returns-in_err-right c =
    let p = err_from_is_err_and c.from_residual-in_err-right.result c.from_residual-in_err-right.ensures.1 in
    rw (p.1, p.2) (steps.right_side_fails _ _ c.in_ok-left.ensures.0 c.in_ok-left.ensures.1 (rw c.in-Some.ensures.1 at c.in_err-right.ensures))

pub returns-then-goes_on : goal.returns-then-goes_on
returns-then-goes_on c = λ a r d l.
    steps.no_third_side c.in_ok-left.ensures.0 c.in_ok-left.ensures.1 (rw c.in-Some.ensures.1 at c.in_ok-right.ensures.0) c.in_ok-right.ensures.1 (sym c.if-goes_on.ensures) d

pub returns : goal.returns
returns c = (
  rw c.compare.ensures (comparison (sym c.if-opens.ensures) c.in_ok-left.ensures.0 c.in-Some.ensures.0 (rw c.in-Some.ensures.1 at c.in_ok-right.ensures.0) (sym c.if-goes_on.ensures)),
  omega arith,
  omega (arith, c.in_ok-left.ensures.2, c.in_ok-right.ensures.2, ap length c.in-Some.ensures.1, steps.behind_le (seen_all c.in_ok-left.rest.now)),
)
