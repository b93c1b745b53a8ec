use Rattle.std.proofs.Common.{length}
use Rattle.ec_walk.proofs.trees.+for_all.Given as goal

abbrev pub decreases-for_all : goal.decreases-for_all
decreases-for_all l = length l.variables.now
