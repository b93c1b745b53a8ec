use Rattle.ec_trail.specs.TrailList.{top_level}
use Rattle.ec_sat.specs.Stops.{AreListed}
use Rattle.ec_sat.proofs.Down.{IsDown}
use Rattle.ec_sat.proofs.learn.walk.Given as goal

abbrev pub invariant-loop-count : goal.invariant-loop-count
invariant-loop-count l = IsDown l.clauses l.trail.variables l.trail.entries l.marks l.hints.items l.count × AreListed l.trail.entries l.marks (top_level l.trail.entries) l.lower.items

abbrev pub decreases-loop-count : goal.decreases-loop-count
decreases-loop-count l = l.count
