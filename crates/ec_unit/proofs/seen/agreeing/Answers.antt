use Rattle.std.proofs.Common.{arith}
use Rattle.ec_unit.proofs.Growing.{agrees_more}
use Rattle.ec_unit.proofs.seen.agreeing.Goals as goal

pub loop-place-preserved : goal.loop-place-preserved
loop-place-preserved c =
    let i = c.in-Some.ensures.lookup in
    let below = i.3.0 in
    (omega arith, agrees_more c.args.trail.now.variables c.args.trail.now.entries c.args.seen.now c.loop-place.place c.in-Some.one.now c.at.result c.len-place-end.ensures.trail (omega arith) below i.1 c.at.ensures (cc (c.eq.ensures, c.if-eq.true)) c.loop-place.invariant.1)
