use Rattle.std.proofs.Common.{arith, ◌∙◌}
use Rattle.ec_sat.proofs.learn.shorten.Goals as goal

pub loop-ahead-preserved-then-below-count : goal.loop-ahead-preserved-then-below-count
loop-ahead-preserved-then-below-count c =
    let i = c.loop-ahead.invariant in
    let e = c.in_ok-drop_implied.ensures in (
      omega (arith, i.0),
      c.drop_implied.auto.marks ∙ i.1,
      e.asserts,
      λ level places h. e.listed level places (i.3 level places h),
      omega (arith, i.4),
    )
