use Rattle.std.proofs.Common.{◌≡◌, take}
use Rattle.ec_trail.specs.TrailList.{truth_of}
use Rattle.ec_sat.specs.Run.{blocked_clause}
use Rattle.ec_sat.proofs.search.forbid.Given as goal

abbrev pub invariant-loop-place : goal.invariant-loop-place
invariant-loop-place l = l.lits.items ≡ take l.place (blocked_clause l.visible (truth_of l.trail))
