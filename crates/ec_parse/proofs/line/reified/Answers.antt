use Rattle.std.proofs.Common.{refl}
use Rattle.ec_parse.specs.Lines.{reified}
use Rattle.ec_parse.proofs.line.reified.Goals as goal

pub returns : goal.returns
returns c = λ u. rw (c.in-Some.ensures, c.in-Some-next.ensures, c.if-not-ends.ensures.end refl, c.in_ok-copied.ensures) (reified c.in-Some-lower_at.ensures)
