use Rattle.ec_log.proofs.Texts.{not_negative}
use Rattle.ec_log.proofs.numbers.read_literal.Goals as goal

pub returns-in-None : goal.returns-in-None
returns-in-None c = λ l fits is. not_negative _ c.in-Some.digits.now c.in-Some.ensures c.in-None.ensures l fits is
