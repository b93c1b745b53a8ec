use Rattle.std.proofs.Common.{arith, ap, length}
use Rattle.std.proofs.lemmas.Result.{err_from_is_err_and}
use Rattle.ec_parse.specs.Mark.{seen_all}
use Rattle.ec_parse.specs.Formulas.{scope, conjunction, no_conjunct, disjunction, no_disjunct}
use Rattle.ec_parse.proofs.FormulaSteps as steps
use Rattle.ec_parse.proofs.formula.+formulas.Goals as goal

pub conjunction-returns-in_err-first : goal.conjunction-returns-in_err-first
conjunction-returns-in_err-first t c =
    let p = err_from_is_err_and c.from_residual.result c.from_residual.ensures.1 in
    rw (p.1, p.2) (steps.conjunction_fails _ _ c.in_err-first.ensures)

pub disjunction-returns-in_err-first : goal.disjunction-returns-in_err-first
disjunction-returns-in_err-first t c =
    let p = err_from_is_err_and c.from_residual.result c.from_residual.ensures.1 in
    rw (p.1, p.2) (steps.disjunction_fails _ _ c.in_err-first.ensures)

pub implication-returns-in_err-left : goal.implication-returns-in_err-left
implication-returns-in_err-left t c =
    let p = err_from_is_err_and c.from_residual.result c.from_residual.ensures.1 in
    rw (p.1, p.2) (steps.implication_fails _ _ c.in_err-left.ensures)

pub formula-returns-in_err-left : goal.formula-returns-in_err-left
formula-returns-in_err-left t c =
    let p = err_from_is_err_and c.from_residual.result c.from_residual.ensures.1 in
    rw (p.1, p.2) (steps.formula_fails _ _ c.in_err-left.ensures)

pub negated-returns-in_err-of : goal.negated-returns-in_err-of
negated-returns-in_err-of t c =
    let p = err_from_is_err_and c.from_residual.result c.from_residual.ensures.1 in
    rw (p.1, p.2) (steps.negation_fails _ _ c.in_err-of.ensures)

pub group-returns-in_err-inner : goal.group-returns-in_err-inner
group-returns-in_err-inner t c =
    let p = err_from_is_err_and c.from_residual.result c.from_residual.ensures.1 in
    rw (p.1, p.2) (steps.group_fails _ _ c.in_err-inner.ensures)

pub unary-returns : goal.unary-returns
unary-returns t c = steps.unary_reads _ _ c.in_default.ensures c.in_default-after.ensures c.in_default-after-2.ensures c.in_default-after-3.ensures c.atom.ensures

pub every-returns-in_err-names : goal.every-returns-in_err-names
every-returns-in_err-names t c =
    let p = err_from_is_err_and c.from_residual.result c.from_residual.ensures.1 in
    rw (p.1, p.2) (steps.every_fails _ _ c.in_err-names.ensures)

pub some-returns-in_err-names : goal.some-returns-in_err-names
some-returns-in_err-names t c =
    let p = err_from_is_err_and c.from_residual.result c.from_residual.ensures.1 in
    rw (p.1, p.2) (steps.some_fails _ _ c.in_err-names.ensures)

pub scope-returns-in_err-names : goal.scope-returns-in_err-names
scope-returns-in_err-names t c =
    let p = err_from_is_err_and c.from_residual.result c.from_residual.ensures.1 in
    rw (p.1, p.2) (steps.names_fail _ _ _ c.requires c.in_err-names.ensures)

pub scope-returns-in_default : goal.scope-returns-in_default
scope-returns-in_default t c = λ a r d l. steps.no_end c.requires c.in_ok-names.ensures.0 c.in_ok-names.ensures.1 c.in_default.ensures d

pub scope-returns-in_err-within : goal.scope-returns-in_err-within
scope-returns-in_err-within t c =
    let p = err_from_is_err_and c.from_residual-in_err-within.result c.from_residual-in_err-within.ensures.1 in
    rw (p.1, p.2) (steps.within_fails _ _ _ _ c.requires (rw c.in-Some.ensures at c.in_ok-names.ensures.0) c.in_err-within.ensures)

pub scope-returns : goal.scope-returns
scope-returns t c = (
  scope (rw c.in-Some.ensures at c.in_ok-names.ensures.0) c.in_ok-within.ensures.0 c.in_ok-within.ensures.1,
  c.in_ok-within.ensures.1,
  omega (arith, c.in_ok-names.ensures.2, c.in_ok-within.ensures.2, ap length c.in-Some.ensures),
)

pub conjunction-returns-in_default : goal.conjunction-returns-in_default
conjunction-returns-in_default t c = (conjunction c.in_ok-first.ensures.0 no_conjunct, steps.stops_and _ c.in_default.ensures, c.in_ok-first.ensures.2)

pub conjuncts-returns-in_err-first : goal.conjuncts-returns-in_err-first
conjuncts-returns-in_err-first t c =
    let p = err_from_is_err_and c.from_residual.result c.from_residual.ensures.1 in
    rw (p.1, p.2) (steps.conjuncts_fail _ _ (steps.conjuncts_begin _) c.in_err-first.ensures)

pub conjuncts-returns-in_err-next : goal.conjuncts-returns-in_err-next
conjuncts-returns-in_err-next t c =
    let p = err_from_is_err_and c.from_residual-in_err-next.result c.from_residual-in_err-next.ensures.1 in
    rw (p.1, p.2) (steps.conjuncts_fail _ _ (rw c.in-Some.ensures at c.parts.invariant) c.in_err-next.ensures)

pub conjuncts-parts-init : goal.conjuncts-parts-init
conjuncts-parts-init t c = steps.conjuncts_more (steps.conjuncts_begin _) c.in_ok-first.first c.in_ok-first.ensures.0 c.in_ok-first.ensures.2 (rw c.new-found.ensures.items at c.in_ok-push.ensures.items)

pub conjuncts-parts-preserved : goal.conjuncts-parts-preserved
conjuncts-parts-preserved t c =
    steps.conjuncts_more (rw c.in-Some.ensures at c.parts.invariant) c.in_ok-next.next c.in_ok-next.ensures.0 c.in_ok-next.ensures.2 c.in_ok-push-2.ensures.items

pub conjuncts-returns : goal.conjuncts-returns
conjuncts-returns t c = (steps.conjuncts_end c.parts.invariant, steps.stops_and _ c.in_default.ensures, c.parts.invariant.shorter)

pub disjunction-returns-in_default : goal.disjunction-returns-in_default
disjunction-returns-in_default t c = (disjunction c.in_ok-first.ensures.0 no_disjunct, steps.stops_or _ c.in_ok-first.ensures.1 c.in_default.ensures, c.in_ok-first.ensures.2)

pub disjuncts-returns-in_err-first : goal.disjuncts-returns-in_err-first
disjuncts-returns-in_err-first t c =
    let p = err_from_is_err_and c.from_residual.result c.from_residual.ensures.1 in
    rw (p.1, p.2) (steps.disjuncts_fail _ _ (steps.disjuncts_begin _ (omega arith)) c.in_err-first.ensures)

pub disjuncts-returns-in_err-next : goal.disjuncts-returns-in_err-next
disjuncts-returns-in_err-next t c =
    let p = err_from_is_err_and c.from_residual-in_err-next.result c.from_residual-in_err-next.ensures.1 in
    rw (p.1, p.2) (steps.disjuncts_fail _ _ (rw c.in-Some.ensures at c.parts.invariant) c.in_err-next.ensures)

pub disjuncts-parts-init : goal.disjuncts-parts-init
disjuncts-parts-init t c =
    steps.disjuncts_more (steps.disjuncts_begin _ (omega arith)) c.in_ok-first.first c.in_ok-first.ensures.0 c.in_ok-first.ensures.1 c.in_ok-first.ensures.2 (rw c.new-found.ensures.items at c.in_ok-push.ensures.items)

pub disjuncts-parts-preserved : goal.disjuncts-parts-preserved
disjuncts-parts-preserved t c =
    steps.disjuncts_more (rw c.in-Some.ensures at c.parts.invariant) c.in_ok-next.next c.in_ok-next.ensures.0 c.in_ok-next.ensures.1 c.in_ok-next.ensures.2 c.in_ok-push-2.ensures.items

pub disjuncts-returns : goal.disjuncts-returns
disjuncts-returns t c = (steps.disjuncts_end c.parts.invariant, steps.stops_or _ c.parts.invariant.stops c.in_default.ensures, c.parts.invariant.shorter)

pub conjunction-returns-in_err-first-2 : goal.conjunction-returns-in_err-first-2
conjunction-returns-in_err-first-2 t c =
    let p = err_from_is_err_and c.from_residual-in_err-first-2.result c.from_residual-in_err-first-2.ensures.1 in
    rw (p.1, p.2) (steps.with_others_fail _ _ (seen_all c.in-Some.more.now) c.conjuncts.result _ c.in_ok-first.ensures.0 c.in-Some.ensures c.in_err-first-2.ensures c.conjuncts.ensures)

pub conjunction-returns : goal.conjunction-returns
conjunction-returns t c =
    rw c.in_ok-conjunction.ensures (steps.with_others (seen_all c.args.marks.now) (seen_all c.in_ok-first.rest.now) (seen_all c.in-Some.more.now) c.in_ok-first.first c.in_ok-first-2.first c.in_ok-first-2.others c.in_ok-first-2.rest c.conjuncts.result
    c.in_ok-first.ensures.0 c.in_ok-first.ensures.2 c.in-Some.ensures c.in_ok-first-2.ensures.0 c.in_ok-first-2.ensures.1 c.conjuncts.ensures)

pub disjunction-returns-in_err-first-2 : goal.disjunction-returns-in_err-first-2
disjunction-returns-in_err-first-2 t c =
    let p = err_from_is_err_and c.from_residual-in_err-first-2.result c.from_residual-in_err-first-2.ensures.1 in
    rw (p.1, p.2) (steps.with_others_of_any_fail _ _ (seen_all c.in-Some.more.now) c.disjuncts.result _ c.in_ok-first.ensures.0 c.in_ok-first.ensures.1 c.in-Some.ensures c.in_err-first-2.ensures c.disjuncts.ensures)

pub disjunction-returns : goal.disjunction-returns
disjunction-returns t c =
    rw c.in_ok-disjunction.ensures (steps.with_others_of_any (seen_all c.args.marks.now) (seen_all c.in_ok-first.rest.now) (seen_all c.in-Some.more.now) c.in_ok-first.first c.in_ok-first-2.first c.in_ok-first-2.others c.in_ok-first-2.rest c.disjuncts.result
    c.in_ok-first.ensures.0 c.in_ok-first.ensures.2 c.in-Some.ensures c.in_ok-first-2.ensures.0 c.in_ok-first-2.ensures.1 c.disjuncts.ensures)

pub implication-returns-in_err-left-2 : goal.implication-returns-in_err-left-2
implication-returns-in_err-left-2 t c =
    let p = err_from_is_err_and c.from_residual-in_err-left-2.result c.from_residual-in_err-left-2.ensures.1 in
    rw (p.1, p.2) (steps.with_right_fails _ _ (seen_all c.in-Some.more.now) c.implication.result _ c.in_ok-left.ensures.0 c.in-Some.ensures c.in_err-left-2.ensures c.implication.ensures)

pub formula-returns-in_err-before : goal.formula-returns-in_err-before
formula-returns-in_err-before t c =
    let p = err_from_is_err_and c.from_residual-in_err-before.result c.from_residual-in_err-before.ensures.1 in
    rw (p.1, p.2) (steps.with_side_fails _ _ (seen_all c.in-Some.more.now) c.implication-in-Some.result _ c.sides.invariant c.in-Some.ensures c.in_err-before.ensures c.implication-in-Some.ensures)

pub formula-sides-preserved : goal.formula-sides-preserved
formula-sides-preserved t c =
    rw c.in_ok-left-2.ensures (steps.with_side (seen_all c.args.marks.now) (seen_all c.sides.rest.now) (seen_all c.in-Some.more.now) c.sides.left c.in_ok-before.before c.in_ok-before.right c.in_ok-before.behind c.implication-in-Some.result
    c.sides.invariant c.in-Some.ensures c.in_ok-before.ensures.0 c.in_ok-before.ensures.1 c.implication-in-Some.ensures)

pub group-returns : goal.group-returns
group-returns t c =
    steps.group_reads (seen_all c.args.marks.now) (seen_all c.in_ok-inner.rest.now) c.in_ok-inner.inner c.closed.result c.in_ok-inner.ensures.0 c.in_ok-inner.ensures.1 c.in_ok-inner.ensures.2 c.closed.ensures
