use Rattle.std.proofs.Common.{◌∙◌, ap}
use Rattle.ec_parse.specs.Cut.{one_if}
use Rattle.ec_parse.proofs.Depth as depth
use Rattle.ec_parse.proofs.Marks.{next_seen}
use Rattle.ec_parse.proofs.cut.is_deep.Goals as goal

pub returns-then-opened-closed-clause-deep : goal.returns-then-opened-closed-clause-deep
returns-then-opened-closed-clause-deep c = λ deep.
    depth.depth_found c.loop-mark.invariant _ _ (next_seen c.args.marks.now c.loop-mark.mark-index c.mark-item.result c.loop-mark-test.true c.mark-item.is) (c.one_if-opened.ensures ∙ ap one_if c.is_open.ensures)
    (c.one_if-closed.ensures ∙ ap one_if c.is_close.ensures) c.if-opened-closed.true

pub loop-mark-preserved : goal.loop-mark-preserved
loop-mark-preserved c =
    depth.depth_goes c.loop-mark.invariant _ _ (next_seen c.args.marks.now c.loop-mark.mark-index c.mark-item.result c.loop-mark-test.true c.mark-item.is) (c.one_if-opened.ensures ∙ ap one_if c.is_open.ensures)
    (c.one_if-closed.ensures ∙ ap one_if c.is_close.ensures) (c.one_if-nesting.ensures ∙ ap one_if c.is_nesting.ensures) c.if-opened-closed.false
