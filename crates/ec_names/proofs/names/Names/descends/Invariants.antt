use Rattle.std.proofs.Common.{◌≡◌, ◌-◌, length}
use Rattle.ec_names.specs.Names.{descends, is_below}
use Rattle.ec_names.proofs.names.Names.descends.Given as goal

abbrev pub invariant-loop-passed : goal.invariant-loop-passed
invariant-loop-passed l = descends l.self (length l.self.sorts - l._passed) l.at l.ancestor ≡ is_below l.self l.fn.sort l.ancestor
