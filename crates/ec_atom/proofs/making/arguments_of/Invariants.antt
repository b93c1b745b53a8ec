use Rattle.std.proofs.Common.{◌≡◌, ◌++◌, drop}
use Rattle.ec_logic.specs.Universe.{universe_of}
use Rattle.ec_atom.specs.Blocks.{with_strides}
use Rattle.ec_atom.proofs.making.arguments_of.Given as goal

abbrev pub invariant-loop-i : goal.invariant-loop-i
invariant-loop-i l = l.row.items ++ with_strides (universe_of l.signature) (drop l.i l.sorts) ≡ with_strides (universe_of l.signature) l.sorts
