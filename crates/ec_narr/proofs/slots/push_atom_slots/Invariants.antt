use Rattle.std.proofs.Common.{◌≡◌, ◌++◌, map, drop}
use Rattle.std.specs.List.{flat_map}
use Rattle.ec_listing.specs.Slots.{atom_slot}
use Rattle.ec_logic.specs.Atom.{atoms_of, declared, visible_atoms}
use Rattle.ec_logic.specs.Universe.{universe_of}
use Rattle.ec_narr.specs.Slots.{slots_view}
use Rattle.ec_narr.proofs.slots.push_atom_slots.Given as goal

abbrev pub invariant-loop-index : goal.invariant-loop-index
invariant-loop-index l = slots_view l.out.items ++ map (atom_slot l.signature) (drop l.index (visible_atoms (universe_of l.signature))) ≡ slots_view l.fn.out.items ++ map (atom_slot l.signature) (flat_map (atoms_of (universe_of l.signature)) (declared (universe_of l.signature)))
