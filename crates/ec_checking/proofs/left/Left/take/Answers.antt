use Rattle.ec_checking.proofs.LeftLemmas.{taken}
use Rattle.ec_checking.proofs.left.Left.take.Goals as goal

pub returns : goal.returns
returns c = taken c.args.self.now (record { places = c.swap_remove.new.self }) c.args.digits.now c.swap_remove.result c.swap_remove.ensures.value c.swap_remove.ensures.updates.0
