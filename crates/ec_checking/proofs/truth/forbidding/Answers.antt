use Rattle.std.proofs.Common.{arith}
use Rattle.ec_checking.proofs.TruthLemmas.{forbids-more}
use Rattle.ec_checking.proofs.truth.forbidding.Goals as goal

pub loop-place-preserved : goal.loop-place-preserved
loop-place-preserved c =
    forbids-more c.args.truth.now c.loop-place.lits.items _ c.new.result _ c.loop-place.place c.loop-place.invariant c.get.ensures (omega (arith, c.loop-place-test.true, c.len-place-end.ensures)) c.new.ensures.variable c.new.ensures.positive c.in_ok-push.ensures.items
