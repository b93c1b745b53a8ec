use Rattle.std.proofs.Common.{◌≡◌}
use Rattle.search_tables.proofs.searches.models.Given as goal

abbrev pub invariant-loop : goal.invariant-loop
invariant-loop g l = l.solver.visible ≡ l.visible
