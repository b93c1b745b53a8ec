-- Lists of narratives.
use Rattle.std.specs.Prelude.{ℕ, suc, ◌≡◌, decimal, codes, Bool, true, false, List, [], ◌∷◌, ◌++◌, Contains}
use Rattle.std.specs.List.{AllByRecursion}
use Rattle.ec_logic.specs.Signature.{Signature}
use Rattle.ec_logic.specs.Universe.{universe_of}
use Rattle.ec_logic.specs.Truth.{Structure}
use Rattle.ec_logic.specs.Theory.{Theory}
use Rattle.ec_logic.specs.Minimal.{IsMinimalModel}
use Rattle.ec_logic.specs.Atom.{visible_truth, structure_of}
use Rattle.ec_logic.specs.Narrative.{line, narrative}

-- How a list ends: all narratives are there, or the search ended at a bound.
pub data Ending : Type 0 where
  complete : ℕ → Ending
  models : ℕ → Ending
  conflicts : ℕ → Ending

abbrev pub ending_text : Ending → List ℕ
ending_text (complete n) = codes "complete: " ++ decimal n
ending_text (models n) = codes "limit: models " ++ decimal n
ending_text (conflicts n) = codes "limit: conflicts " ++ decimal n

-- the narratives of truths of the visible atoms, numbered from a number on
abbrev pub narratives_from : Signature → ℕ → List (List Bool) → List ℕ
narratives_from signature number [] = []
narratives_from signature number (truths ∷ more) = narrative signature (structure_of (universe_of signature) truths) number ++ narratives_from signature (suc number) more

abbrev pub list_text : Signature → List (List Bool) → Ending → List ℕ
list_text signature truths ending = narratives_from signature 1 truths ++ line (ending_text ending)

-- ---- the order of truths: false before true, the first atom first

-- one truth comes before another of the same atoms
abbrev pub Precedes : List Bool → List Bool → Type 0
Precedes (false ∷ a) (true ∷ b) = Unit {0}
Precedes (false ∷ a) (false ∷ b) = Precedes a b
Precedes (true ∷ a) (true ∷ b) = Precedes a b
Precedes _ _ = ⊥

-- each truth comes before all that follow
abbrev pub IsRising : List (List Bool) → Type 0
IsRising [] = Unit {0}
IsRising (truths ∷ more) = AllByRecursion (Precedes truths) more × IsRising more

-- ---- the truths of a theory

-- the visible truth of a minimal model
abbrev pub IsTruth : Theory → List Bool → Type 0
IsTruth theory truths = (m : Structure) × IsMinimalModel theory m × (visible_truth (universe_of theory.signature) m ≡ truths)

-- the visible truths of all minimal models, rising, so each once
pub record AreTruths (theory : Theory) (truths : List (List Bool)) : Type 0 where
  pub rising : IsRising truths
  pub each : AllByRecursion (IsTruth theory) truths
  pub all : (found : List Bool) → IsTruth theory found → Contains truths found
