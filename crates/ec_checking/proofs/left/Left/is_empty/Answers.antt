use Rattle.std.proofs.lemmas.List.{nil_from_length}
use Rattle.ec_checking.proofs.LeftLemmas.{left-all, left-empty}
use Rattle.ec_checking.proofs.left.Left.is_empty.Goals as goal

pub returns : goal.returns
returns c = λ truths notes left. (λ yes. left-all truths notes c.args.self.now left (nil_from_length _ (c.is_empty.ensures.0 yes)), λ blocks. c.is_empty.ensures.1 (left-empty truths notes c.args.self.now left blocks))
