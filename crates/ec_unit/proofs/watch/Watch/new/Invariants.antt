use Rattle.ec_unit.specs.Watching.{WatchesUpTo}
use Rattle.ec_unit.specs.Working.{IsTable, watched_of}
use Rattle.ec_unit.proofs.watch.Watch.new.Given as goal

abbrev pub invariant-loop-index : goal.invariant-loop-index
invariant-loop-index l = IsTable l.table × WatchesUpTo l.clauses l.index (watched_of l.table)
