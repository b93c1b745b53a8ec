use Rattle.ec_parse.proofs.LineSteps as steps
use Rattle.ec_parse.proofs.line.shape.Goals as goal

pub returns-in-None : goal.returns-in-None
returns-in-None c = λ a r d l. steps.no_shape_end c.in_default-after-2.ensures c.in_ok-sorts.ensures.0 c.in_ok-sorts.ensures.1 c.in-None.ensures (rw (c.in-Some.ensures, c.in-Some-after.ensures) at d)
