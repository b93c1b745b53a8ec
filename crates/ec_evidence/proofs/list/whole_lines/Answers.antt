use Rattle.std.proofs.Common.{rules, sym}
use Rattle.ec_evidence.proofs.Cutting.{one_passed, all_passed}
use Rattle.ec_evidence.proofs.list.whole_lines.Goals as goal

pub loop-after-preserved : goal.loop-after-preserved
loop-after-preserved c = one_passed c.args.text.now c.loop-after.rest.now c.in-Some.field-0-0.now c.in-Some.after.now c.loop-after.count (sym c.in-Some.ensures.exact) c.in-Some.ensures.whole c.loop-after.invariant

pub returns : goal.returns
returns c = all_passed c.args.text.now c.loop-after.rest.now c.split_at.result.0.now c.loop-after.count (search rules) c.split_at.ensures.front c.loop-after.invariant
