use Rattle.std.proofs.Common.{length}
use Rattle.ec_names.specs.Names.{sort_words}
use Rattle.ec_names.proofs.Variables.{IsStem}
use Rattle.ec_names.proofs.names.Names.variable_sort.Given as goal

abbrev pub invariant-loop-name : goal.invariant-loop-name
invariant-loop-name l = IsStem (sort_words l.self) l.variable l.stem

abbrev pub decreases-loop-name : goal.decreases-loop-name
decreases-loop-name l = length l.stem
