use Rattle.std.proofs.Common.{◌≡◌, ◌++◌, drop}
use Rattle.std.specs.List.{flat_map}
use Rattle.ec_logic.specs.Atom.{atoms_of, declared, structure_of, visible_atoms}
use Rattle.ec_logic.specs.Narrative.{atom_line}
use Rattle.ec_logic.specs.Universe.{universe_of}
use Rattle.ec_narr.proofs.predicates.push_predicates.Given as goal

abbrev pub invariant-loop-index : goal.invariant-loop-index
invariant-loop-index l = l.out.items ++ flat_map (atom_line l.signature (structure_of (universe_of l.signature) l.truth)) (drop l.index (visible_atoms (universe_of l.signature))) ≡ l.fn.out.items ++ flat_map (atom_line l.signature (structure_of (universe_of l.signature) l.truth)) (flat_map (atoms_of (universe_of l.signature)) (declared (universe_of l.signature)))
