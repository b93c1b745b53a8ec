use Rattle.std.proofs.Common.{drop}
use Rattle.ec_parse.specs.Mark.{seen_all}
use Rattle.ec_parse.proofs.Depth.{Depth}
use Rattle.ec_parse.proofs.cut.is_deep.Given as goal

abbrev pub invariant-loop-mark : goal.invariant-loop-mark
invariant-loop-mark l = Depth (seen_all l.marks) (seen_all (drop l.mark-index l.marks)) l.opened l.closed l.nesting
