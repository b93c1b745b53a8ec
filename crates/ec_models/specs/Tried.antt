-- The truths that are tried, and those of them that a theory has.
use Rattle.std.specs.Prelude.{ℕ, zero, suc, Bool, true, false, List, [], ◌∷◌, ◌++◌, length, map}
use Rattle.ec_logic.specs.Signature.{Signature}
use Rattle.ec_logic.specs.Universe.{universe_of}
use Rattle.ec_logic.specs.Atom.{all_atoms, visible_atoms}
use Rattle.ec_logic.specs.Theory.{Theory}
use Rattle.ec_logic.specs.Listing.{IsTruth}

-- every truth of so many atoms, in rising order: false before true, the first atom first
unfoldable pub all_truths : ℕ → List (List Bool)
all_truths zero = [] ∷ []
all_truths (suc n) = map (λ t. false ∷ t) (all_truths n) ++ map (λ t. true ∷ t) (all_truths n)

-- the truths that begin with these and have so many values more
unfoldable pub extended : List Bool → ℕ → List (List Bool)
extended truths n = map (λ t. truths ++ t) (all_truths n)

-- Those of the tried truths that the theory has are found, in their order, and no others.
pub data AreFound (theory : Theory) : List (List Bool) → List (List Bool) → Type 0 where
  none : AreFound theory [] []
  found : (truth : List Bool) → {tried kept : List (List Bool)} → IsTruth theory truth → AreFound theory tried kept → AreFound theory (truth ∷ tried) (truth ∷ kept)
  passed : (truth : List Bool) → {tried kept : List (List Bool)} → (IsTruth theory truth → ⊥) → AreFound theory tried kept → AreFound theory (truth ∷ tried) kept

-- Whatever truths were tried before, these are tried after them.
pub record AreTried (theory : Theory) (truths old new : List (List Bool)) : Type 0 where
  pub tried : (before : List (List Bool)) → AreFound theory before old → AreFound theory (before ++ truths) new

-- how many atoms a structure of a signature has
abbrev pub atom_count : Signature → ℕ
atom_count signature = length (all_atoms (universe_of signature))

-- how many of them are visible
abbrev pub visible_count : Signature → ℕ
visible_count signature = length (visible_atoms (universe_of signature))
