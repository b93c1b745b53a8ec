use Rattle.std.proofs.Common.{◌≡◌, ◌-◌, length}
use Rattle.ec_unit.specs.Settling.{AddsImplied}
use Rattle.ec_unit.specs.Working.{IsWorking, AreChained, ShortHold}
use Rattle.ec_unit.proofs.watch.work.Given as goal

abbrev pub invariant-loop-table : goal.invariant-loop-table
invariant-loop-table l = IsWorking l.clauses l.table l.trail × AreChained l.table × (l.table.chained ≡ length l.clauses.clauses) × AddsImplied l.clauses l.fn.trail l.trail × ShortHold l.clauses l.table.seen.items l.table.short.items

abbrev pub decreases-loop-table : goal.decreases-loop-table
decreases-loop-table l = l.trail.variables - l.table.worked
