use Rattle.std.proofs.Common.{◌≡◌}
use Rattle.unit_checks.proofs.scan.settle.Given as goal

abbrev pub invariant-loop : goal.invariant-loop
invariant-loop l = l.clauses.variables ≡ l.trail.variables
