use Rattle.std.proofs.Common.{◌≡◌, length}
use Rattle.ec_command.specs.LastLine.{last_behind, last_line, lines_of}
use Rattle.ec_command.proofs.last_line.last_line.Given as goal

abbrev pub invariant-loop-line : goal.invariant-loop-line
invariant-loop-line l = last_behind l.last (lines_of l.rest) ≡ last_line l.fn.text

abbrev pub decreases-loop-line : goal.decreases-loop-line
decreases-loop-line l = length l.rest
