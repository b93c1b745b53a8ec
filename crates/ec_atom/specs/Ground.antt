-- Ground atoms, events and fluents as the definitions have them.
use Rattle.std.specs.Prelude.{ℕ, Bool, is_some, List, map}
use Rattle.ec_logic.specs.Atom as logic
use Rattle.ec_logic.specs.Atom.{all_atoms}
use Rattle.ec_logic.specs.Truth.{Structure}
use Rattle.ec_logic.specs.Universe.{Universe, tuple_rank}
use Rattle.ec_theory.specs.declared.value.Value.{Value}
use Rattle.ec_theory.specs.Values.{numbers_of}
use Rattle.ec_atom.specs.declared.ground.GroundAtom.{GroundAtom}

-- whether each argument is in the domain of its sort, and there is one for each
abbrev pub are_within : Universe → List ℕ → List Value → Bool
are_within universe sorts args = is_some (tuple_rank universe sorts (numbers_of args))

abbrev pub atom_of : ℕ → List Value → logic.GroundAtom
atom_of predicate args = record { predicate = predicate; args = numbers_of args }

abbrev pub ground_atom : GroundAtom → logic.GroundAtom
ground_atom atom = atom_of atom.predicate atom.args.items

-- the truths of all atoms in a structure, in their order
abbrev pub truths_in : Universe → Structure → List Bool
truths_in universe m = map (λ (atom : logic.GroundAtom). m atom.predicate atom.args) (all_atoms universe)
