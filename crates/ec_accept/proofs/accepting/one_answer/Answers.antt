use Rattle.ec_accept.proofs.One.{accepted_one}
use Rattle.ec_accept.proofs.accepting.one_answer.Goals as goal

pub returns : goal.returns
returns c = λ held root a b d e. accepted_one held root d e
