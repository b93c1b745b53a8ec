use Rattle.std.proofs.Common.{◌≡◌, ◌-◌, length}
use Rattle.ec_unit.specs.Settling.{AddsImplied}
use Rattle.ec_unit.specs.Leaning.{Grows}
use Rattle.ec_unit.specs.Working.{IsWorking, AreChained}
use Rattle.ec_unit.proofs.table.take_up.Given as goal

abbrev pub invariant-loop-table : goal.invariant-loop-table
invariant-loop-table l = IsWorking l.clauses l.table l.trail × AreChained l.table × (l.table.short.items ≡ l.initial.table.short.items) × Grows l.initial.table.seen.items l.table.seen.items × AddsImplied l.clauses l.initial.trail l.trail

abbrev pub decreases-loop-table : goal.decreases-loop-table
decreases-loop-table l = length l.clauses.clauses - l.table.chained
