use Rattle.std.proofs.Common.{length}
use Rattle.ec_walk.proofs.trees.+every.Given as goal

abbrev pub decreases-every : goal.decreases-every
decreases-every l = length l.variables.now
