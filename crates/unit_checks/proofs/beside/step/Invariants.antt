use Rattle.std.proofs.Common.{◌≡◌}
use Rattle.unit_checks.proofs.beside.step.Given as goal

abbrev pub invariant-loop : goal.invariant-loop
invariant-loop g l = (l.trail.variables ≡ l.fn.trail.variables) × (l.twin.variables ≡ l.fn.twin.variables)
