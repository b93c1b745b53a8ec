use Rattle.std.proofs.lemmas.Result.{err_from_is_err_and}
use Rattle.ec_parse.specs.Reads.{item_of}
use Rattle.ec_parse.specs.Lines.{IsSortItem}
use Rattle.ec_parse.proofs.Parted.{fail_first, parts_begin, parts_more, parts_fail, stops_commas}
use Rattle.ec_parse.proofs.LineSteps.{item_one, items_end}
use Rattle.ec_parse.proofs.line.sort_items.Goals as goal

pub returns-in_err-first : goal.returns-in_err-first
returns-in_err-first c =
    let p = err_from_is_err_and c.from_residual.result c.from_residual.ensures.1 in
    rw (p.1, p.2) (fail_first IsSortItem item_one _ _ c.in_err-first.ensures)

pub returns-in_err-next : goal.returns-in_err-next
returns-in_err-next c =
    let p = err_from_is_err_and c.from_residual-in_err-next.result c.from_residual-in_err-next.ensures.1 in
    rw (p.1, p.2) (parts_fail item_of IsSortItem item_one _ _ (rw c.in-Some.ensures at c.parts.invariant) c.in_err-next.ensures)

pub parts-init : goal.parts-init
parts-init c = parts_begin item_of IsSortItem item_one c.in_ok-first.first c.in_ok-first.ensures.0 c.in_ok-first.ensures.2 (rw c.new-found.ensures.items at c.in_ok-push.ensures.items)

pub parts-preserved : goal.parts-preserved
parts-preserved c =
    parts_more item_of IsSortItem item_one (rw c.in-Some.ensures at c.parts.invariant) c.in_ok-next.next c.in_ok-next.ensures.0 c.in_ok-next.ensures.2 c.in_ok-push-2.ensures.items

pub returns : goal.returns
returns c = (items_end c.parts.invariant, stops_commas _ c.in_default.ensures, c.parts.invariant.shorter)
