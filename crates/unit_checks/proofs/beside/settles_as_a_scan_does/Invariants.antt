use Rattle.std.proofs.Common.{◌≡◌}
use Rattle.ec_unit.specs.Watching.{Watches}
use Rattle.unit_checks.proofs.beside.settles_as_a_scan_does.Given as goal

abbrev pub invariant-loop-2 : goal.invariant-loop-2
invariant-loop-2 g l =
    Watches l.clauses l.watch × (l.clauses.variables ≡ 12) × (l.first.variables ≡ 12) × (l.first_twin.variables ≡ 12) × (l.second.variables ≡ 12) × (l.second_twin.variables ≡ 12)
