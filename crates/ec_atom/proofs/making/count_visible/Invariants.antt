use Rattle.std.proofs.Common.{◌≡◌, ◌^◌, min, take}
use Rattle.ec_logic.specs.Atom.{predicates_in_order}
use Rattle.ec_logic.specs.Total.{total}
use Rattle.ec_logic.specs.Universe.{universe_of}
use Rattle.ec_atom.proofs.making.count_visible.Given as goal

abbrev pub invariant-loop-place : goal.invariant-loop-place
invariant-loop-place l = l.sum ≡ min (total (universe_of l.signature) (take l.place (predicates_in_order (universe_of l.signature)))) (2 ^ 62)
