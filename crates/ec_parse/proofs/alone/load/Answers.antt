use Rattle.std.proofs.Common.{◌∙◌}
use Rattle.ec_parse.specs.Lines.{load}
use Rattle.ec_parse.proofs.LineSteps.{nonempty}
use Rattle.ec_parse.proofs.alone.load.Goals as goal

pub returns : goal.returns
returns c = rw c.in_ok-copied.ensures (load (λ e. nonempty _ c.if-is_empty.ensures (c.bytes.ensures ∙ e)))
