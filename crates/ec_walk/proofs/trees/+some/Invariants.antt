use Rattle.std.proofs.Common.{length}
use Rattle.ec_walk.proofs.trees.+some.Given as goal

abbrev pub decreases-some : goal.decreases-some
decreases-some l = length l.variables.now
