-- The first untrue part of a theory in the structure that a visible truth gives.
use Rattle.std.specs.Prelude.{Bool, List, Option, Some, None}
use Rattle.ec_logic.specs.Theory.{Theory}
use Rattle.ec_logic.specs.Universe.{universe_of}
use Rattle.ec_logic.specs.Truth.{Structure}
use Rattle.ec_logic.specs.Atom.{structure_of}
use Rattle.ec_logic.specs.Listing.{IsTruth}
use Rattle.ec_minimal.specs.Effects.{with_effects}
use Rattle.ec_minimal.specs.Verdicts.{IsFirstUntrue}
use Rattle.ec_minimal.specs.declared.verdict.Part.{Part}

-- the structure that has this visible truth, and the effects that follow from it
abbrev pub filled_structure : Theory → List Bool → Structure
filled_structure theory truth = with_effects theory (structure_of (universe_of theory.signature) truth)

-- The truth isn't that of a minimal model, and this is the first untrue part.
pub record IsUntrueAt (theory : Theory) (truth : List Bool) (part : Part) : Type 0 where
  pub none : IsTruth theory truth → ⊥
  pub first : IsFirstUntrue theory (filled_structure theory truth) part

-- None where the truth is that of a minimal model, else the first untrue part.
abbrev pub TellsPart : Theory → List Bool → Option Part → Type 0
TellsPart theory truth None = IsTruth theory truth
TellsPart theory truth (Some part) = IsUntrueAt theory truth part
