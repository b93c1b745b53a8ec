use Rattle.std.proofs.Common.{◌≡◌, drop, map}
use Rattle.ec_syntax.specs.View.{placed_of}
use Rattle.ec_names.specs.Names.{built_in_sorts, joined, sort_name, sorts_in}
use Rattle.ec_names.specs.View.{continued, sorts_of}
use Rattle.ec_names.proofs.collecting.declared_sorts.Given as goal

abbrev pub invariant-loop-placed : goal.invariant-loop-placed
invariant-loop-placed l = continued sort_name (sorts_of l.sorts.entries) (joined sorts_in (map placed_of (drop l.placed-index l.statements))) ≡ continued sort_name built_in_sorts (joined sorts_in (map placed_of l.statements))
