use Rattle.std.proofs.Common.{◌≡◌, None}
use Rattle.ec_unit.specs.Settling.{AddsImplied}
use Rattle.ec_unit.specs.Leaning.{Grows}
use Rattle.ec_unit.specs.Visiting.{IsVisiting}
use Rattle.ec_unit.proofs.visit.visit.Given as goal

abbrev pub invariant-loop-walk : goal.invariant-loop-walk
invariant-loop-walk l = IsVisiting l.clauses l.table l.trail l.walk None × (l.walk.lit ≡ l.fn.lit) × (l.table.worked ≡ l.initial.table.worked) × (l.table.short.items ≡ l.initial.table.short.items) × Grows l.initial.table.seen.items l.table.seen.items × AddsImplied l.clauses l.initial.trail l.trail

abbrev pub decreases-loop-walk : goal.decreases-loop-walk
decreases-loop-walk l = l.walk.left
