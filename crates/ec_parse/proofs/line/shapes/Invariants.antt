use Rattle.std.proofs.Common.{length}
use Rattle.ec_syntax.specs.View.{shape_of}
use Rattle.ec_parse.specs.Mark.{seen_all}
use Rattle.ec_parse.specs.Lines.{IsShape}
use Rattle.ec_parse.proofs.Parted.{Parts}
use Rattle.ec_parse.proofs.line.shapes.Given as goal

abbrev pub invariant-parts : goal.invariant-parts
invariant-parts l = Parts shape_of IsShape (seen_all l.marks) (seen_all l.rest) l.found.items

abbrev pub decreases-parts : goal.decreases-parts
decreases-parts l = length (seen_all l.rest)
