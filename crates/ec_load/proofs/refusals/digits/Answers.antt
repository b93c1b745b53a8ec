use Rattle.ec_load.proofs.Digits.{two_utf8}
use Rattle.ec_load.proofs.refusals.digits.Goals as goal

pub of-requires : goal.of-requires
of-requires c = two_utf8 c.digit.result c.digit-2.result c.digit.ensures.low c.digit-2.ensures.low
