use Rattle.std.proofs.lemmas.Result.{err_from_is_err_and}
use Rattle.ec_parse.proofs.TermSteps as steps
use Rattle.ec_parse.proofs.term.+terms.Goals as goal

pub signed-returns-in_err-of-in-Minus : goal.signed-returns-in_err-of-in-Minus
signed-returns-in_err-of-in-Minus t c =
    let p = err_from_is_err_and c.from_residual.result c.from_residual.ensures.1 in
    rw (p.1, p.2, c.in-Minus.is) (steps.minus_fails _ _ c.in_err-of-in-Minus.ensures)

pub signed-returns-in_err-inner-in-Open : goal.signed-returns-in_err-inner-in-Open
signed-returns-in_err-inner-in-Open t c =
    let p = err_from_is_err_and c.from_residual-in_err-inner-in-Open.result c.from_residual-in_err-inner-in-Open.ensures.1 in
    rw (p.1, p.2, c.in-Open.is) (steps.group_fails _ _ c.in_err-inner-in-Open.ensures)

pub signed-returns-in-None : goal.signed-returns-in-None
signed-returns-in-None t c = λ a r d l. steps.no_close c.in_ok-inner-in-Open.ensures.0 c.in_ok-inner-in-Open.ensures.1 c.in-None.ensures (rw c.in-Open.is at d)

pub arguments-returns-in-None : goal.arguments-returns-in-None
arguments-returns-in-None t c = λ a r d l.
    steps.no_arguments_close c.in_ok-args.ensures.0 c.in_ok-args.ensures.1 c.in-None.ensures c.in_default-after.ensures (rw c.in-Some.ensures at d)

pub products-returns-in_err-left : goal.products-returns-in_err-left
products-returns-in_err-left t c =
    let p = err_from_is_err_and c.from_residual.result c.from_residual.ensures.1 in
    rw (p.1, p.2) (steps.factor_fails _ _ c.in_err-left.ensures)

pub products-returns-in_err-right : goal.products-returns-in_err-right
products-returns-in_err-right t c =
    let p = err_from_is_err_and c.from_residual-in_err-right.result c.from_residual-in_err-right.ensures.1 in
    rw (p.1, p.2) (steps.product_fails _ _ (rw c.in-Some.ensures at c.factors.invariant) c.in_err-right.ensures)

pub products-factors-preserved : goal.products-factors-preserved
products-factors-preserved t c =
    rw c.in_ok-left-2.ensures (steps.product_goes (rw c.in-Some.ensures at c.factors.invariant) c.in_ok-right.ensures.0 c.in_ok-right.ensures.2)

pub term-returns-in_err-left : goal.term-returns-in_err-left
term-returns-in_err-left t c =
    let p = err_from_is_err_and c.from_residual.result c.from_residual.ensures.1 in
    rw (p.1, p.2) (steps.term_fails _ _ c.in_err-left.ensures)

pub term-returns-in_err-right : goal.term-returns-in_err-right
term-returns-in_err-right t c =
    let p = err_from_is_err_and c.from_residual-in_err-right.result c.from_residual-in_err-right.ensures.1 in
    rw (p.1, p.2) (steps.sum_fails _ _ (rw c.in-Some.ensures at c.products.invariant) c.in_err-right.ensures)

pub term-returns-in_err-right-2 : goal.term-returns-in_err-right-2
term-returns-in_err-right-2 t c =
    let p = err_from_is_err_and c.from_residual-in_err-right-2.result c.from_residual-in_err-right-2.ensures.1 in
    rw (p.1, p.2) (steps.difference_fails _ _ (rw c.in-Some-after.ensures at c.products.invariant) c.in_err-right-2.ensures)

pub term-products-preserved-in-Some : goal.term-products-preserved-in-Some
term-products-preserved-in-Some t c =
    rw c.in_ok-left-2.ensures (steps.sum_goes (rw c.in-Some.ensures at c.products.invariant) c.in_ok-right.ensures.0 c.in_ok-right.ensures.1 c.in_ok-right.ensures.2)

pub term-products-preserved : goal.term-products-preserved
term-products-preserved t c =
    rw c.in_ok-left-3.ensures (steps.difference_goes (rw c.in-Some-after.ensures at c.products.invariant) c.in_ok-right-2.ensures.0 c.in_ok-right-2.ensures.1 c.in_ok-right-2.ensures.2)

pub terms-returns-in_err-first : goal.terms-returns-in_err-first
terms-returns-in_err-first t c =
    let p = err_from_is_err_and c.from_residual.result c.from_residual.ensures.1 in
    rw (p.1, p.2) (steps.terms_fail_first _ _ c.in_err-first.ensures)

pub terms-returns-in_err-next : goal.terms-returns-in_err-next
terms-returns-in_err-next t c =
    let p = err_from_is_err_and c.from_residual-in_err-next.result c.from_residual-in_err-next.ensures.1 in
    rw (p.1, p.2) (steps.terms_fail _ _ (rw c.in-Some.ensures at c.parts.invariant) c.in_err-next.ensures)

pub terms-parts-init : goal.terms-parts-init
terms-parts-init t c = steps.arguments_begin c.in_ok-first.first c.in_ok-first.ensures.0 c.in_ok-first.ensures.1 c.in_ok-first.ensures.2 (rw c.new-found.ensures.items at c.in_ok-push.ensures.items)

pub terms-parts-preserved : goal.terms-parts-preserved
terms-parts-preserved t c =
    steps.arguments_more (rw c.in-Some.ensures at c.parts.invariant) c.in_ok-next.next c.in_ok-next.ensures.0 c.in_ok-next.ensures.1 c.in_ok-next.ensures.2 c.in_ok-push-2.ensures.items
