use Rattle.std.proofs.Common.{length}
use Rattle.ec_evidence.proofs.Cutting.{IsPassing}
use Rattle.ec_evidence.proofs.list.whole_lines.Given as goal

abbrev pub invariant-loop-after : goal.invariant-loop-after
invariant-loop-after l = IsPassing l.fn.text l.rest l.count

abbrev pub decreases-loop-after : goal.decreases-loop-after
decreases-loop-after l = length l.rest
