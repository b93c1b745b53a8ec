use Rattle.std.proofs.Common.{map, take}
use Rattle.ec_logic.specs.Universe.{universe_of}
use Rattle.ec_logic.specs.Atom.{structure_of}
use Rattle.ec_logic.specs.Minimal.{AreMinimalIn}
use Rattle.ec_theory.specs.Theories.{group_of}
use Rattle.ec_minimal.proofs.untrue.first_unminimal_group.Given as goal

abbrev pub invariant-loop-place : goal.invariant-loop-place
invariant-loop-place l = AreMinimalIn (universe_of l.signature) (take l.place (map group_of l.groups)) (structure_of (universe_of l.signature) l.structure)
