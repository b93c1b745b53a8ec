use Rattle.ec_rup.proofs.Reaching.{closed-leaves_none_out}
use Rattle.ec_rup.proofs.law.closed_leaves_none_out.Goals as goal

pub returns : goal.returns
returns c = closed-leaves_none_out
