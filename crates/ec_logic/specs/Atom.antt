-- The ground atoms in their order: those of HoldsAt, ReleasedAt, Happens and the declared predicates, which are visible, then those of
-- Initiates, Terminates and Releases; within a predicate by arguments, the first slowest.
use Rattle.std.specs.Prelude.{ℕ, ◌+◌, ◌-◌, ◌==◌, ℤ, Bool, false, if◌then◌else◌, List, [], ◌∷◌, ◌++◌, length, map, Option, Some, None, option_map, slice_get, unwrap_or}
use Rattle.std.specs.List.{flat_map, range_with_len}
use Rattle.ec_logic.specs.Signature.{holds_at, released_at, happens, initiates, terminates, releases, built_in}
use Rattle.ec_logic.specs.Universe.{Universe, row_of, tuples, tuple_at, tuple_rank}
use Rattle.ec_logic.specs.Truth.{Structure}

-- A predicate and the values of its arguments.
pub record GroundAtom : Type 0 where
  pub predicate : ℕ
  pub args : List ℤ

-- the declared predicates
abbrev pub declared : Universe → List ℕ
declared universe = range_with_len built_in (length universe.predicates - built_in)

-- the predicates in the order of their atoms
abbrev pub visible_predicates : Universe → List ℕ
visible_predicates universe = holds_at ∷ released_at ∷ happens ∷ declared universe

abbrev pub predicates_in_order : Universe → List ℕ
predicates_in_order universe = visible_predicates universe ++ initiates ∷ terminates ∷ releases ∷ []

abbrev pub tuples_of : Universe → ℕ → ℕ
tuples_of universe p = tuples universe (row_of universe.predicates p)

abbrev pub atom_at : Universe → ℕ → ℕ → GroundAtom
atom_at universe p k = record { predicate = p; args = tuple_at universe (row_of universe.predicates p) k }

-- a predicate's atoms
abbrev pub atoms_of : Universe → ℕ → List GroundAtom
atoms_of universe p = map (atom_at universe p) (range_with_len 0 (tuples_of universe p))

abbrev pub visible_atoms : Universe → List GroundAtom
visible_atoms universe = flat_map (atoms_of universe) (visible_predicates universe)

abbrev pub all_atoms : Universe → List GroundAtom
all_atoms universe = flat_map (atoms_of universe) (predicates_in_order universe)

-- how many atoms the predicates before this one have
abbrev pub atoms_before : Universe → List ℕ → ℕ → ℕ
atoms_before universe [] p = 0
atoms_before universe (q ∷ qs) p = if q == p then 0 else tuples_of universe q + atoms_before universe qs p

-- the number of an atom, if its arguments are in their domains
abbrev pub number_of : Universe → ℕ → List ℤ → Option ℕ
number_of universe p vs = option_map (λ k. atoms_before universe (predicates_in_order universe) p + k) (tuple_rank universe (row_of universe.predicates p) vs)

-- the truth of the visible atoms in a structure
abbrev pub visible_truth : Universe → Structure → List Bool
visible_truth universe m = map (λ (atom : GroundAtom). m atom.predicate atom.args) (visible_atoms universe)

-- the structure in which an atom is true where the truth at its number is
abbrev pub structure_of : Universe → List Bool → Structure
structure_of universe truths p vs = truth_at (number_of universe p vs)
  where
    truth_at : Option ℕ → Bool
    truth_at None = false
    truth_at (Some k) = unwrap_or (slice_get truths k) false
