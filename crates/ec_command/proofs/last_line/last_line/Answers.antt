use Rattle.std.proofs.Common.{sym, ap, ◌∙◌}
use Rattle.ec_command.specs.LastLine.{last_behind}
use Rattle.ec_command.proofs.LastLines.{no_more_lines, line_before}
use Rattle.ec_command.proofs.last_line.last_line.Goals as goal

pub loop-line-preserved : goal.loop-line-preserved
loop-line-preserved c =
    ap (last_behind c.loop-line.last.now) (sym (line_before c.loop-line.rest.now c.in-Some.line.now c.in-Some.more.now (rw c.in-Some.is at c.first_line.ensures.exact)))
    ∙ c.loop-line.invariant

pub returns : goal.returns
returns c =
    ap (last_behind c.loop-line.last.now) (sym (no_more_lines c.loop-line.rest.now (rw c.in_default.is at c.first_line.ensures.exact)))
    ∙ c.loop-line.invariant
