use Rattle.std.proofs.Common.{arith}
use Rattle.ec_checking.proofs.TruthLemmas.{digits-more}
use Rattle.ec_checking.proofs.truth.digits_of.Goals as goal

pub loop-group-preserved : goal.loop-group-preserved
loop-group-preserved c = digits-more c.args.truth.now c.loop-group.digits.items _ _ c.loop-group.group c.loop-group.invariant (omega (arith, c.loop-group-test.true, c.div_ceil-group-end.ensures, c.len.ensures)) c.digit_at.ensures c.in_ok-push.ensures.items
