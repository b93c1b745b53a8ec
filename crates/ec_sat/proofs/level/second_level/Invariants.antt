use Rattle.ec_sat.proofs.Levels.{AreLevels}
use Rattle.ec_sat.proofs.level.second_level.Given as goal

abbrev pub invariant-loop-lit : goal.invariant-loop-lit
invariant-loop-lit l = AreLevels l.trail.entries l.lits l.lit-index l.first l.second
