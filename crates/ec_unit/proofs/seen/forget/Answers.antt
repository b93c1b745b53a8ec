use Rattle.std.proofs.Common.{arith}
use Rattle.std.specs.Prelude.{vec_capacity}
use Rattle.ec_unit.proofs.Growing.{forgot_more}
use Rattle.ec_unit.proofs.seen.forget.Goals as goal

pub loop-seen-preserved-in-Some : goal.loop-seen-preserved-in-Some
loop-seen-preserved-in-Some c =
    forgot_more c.args.seen.now.items c.loop-seen.seen.items c.pop.new.self.items (vec_capacity c.args.seen.now) (vec_capacity c.loop-seen.seen) (vec_capacity c.pop.new.self) c.args.worked c.loop-seen.worked c.min-worked.result c.args.front c.in-Some.gone c.loop-seen.invariant c.in-Some.ensures.capacity (omega (arith, c.len.ensures, c.loop-seen-test.true)) c.in-Some.ensures.items (omega (arith, c.min-worked.ensures)) (omega (arith, c.min-worked.ensures))
