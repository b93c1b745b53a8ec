use Rattle.std.proofs.Common.{◌≡◌}
use Rattle.unit_checks.proofs.scan.pass.Given as goal

abbrev pub invariant-loop-index : goal.invariant-loop-index
invariant-loop-index l = l.clauses.variables ≡ l.trail.variables
