-- What a search for the first untrue one of a list tells: none where all are true, else its place.
use Rattle.std.specs.Prelude.{ℕ, ◌≡◌, true, List, Option, None, Some}
use Rattle.ec_logic.specs.Tree.{Formula}
use Rattle.ec_logic.specs.Universe.{Universe, universe_of}
use Rattle.ec_logic.specs.Truth.{Structure}
use Rattle.ec_logic.specs.Axiom.{dec_axioms, release_axioms}
use Rattle.ec_logic.specs.Theory.{Group, Theory, all_hold}
use Rattle.ec_logic.specs.Minimal.{AreMinimalIn}
use Rattle.ec_minimal.specs.declared.verdict.Part.{Part}
use Rattle.ec_minimal.specs.Verdicts.{IsFirstFalse, IsFirstUnminimal, IsFirstUntrue}

abbrev pub TellsFirstFalse : Universe → Structure → List Formula → Option ℕ → Type 0
TellsFirstFalse universe m sentences None = all_hold universe m sentences ≡ true
TellsFirstFalse universe m sentences (Some place) = IsFirstFalse universe m sentences place

abbrev pub TellsFirstUnminimal : Universe → Structure → List Group → Option ℕ → Type 0
TellsFirstUnminimal universe m groups None = AreMinimalIn universe groups m
TellsFirstUnminimal universe m groups (Some place) = IsFirstUnminimal universe m groups place

-- All is true that stands before the groups.
pub record IsTrueBeforeGroups (theory : Theory) (m : Structure) : Type 0 where
  pub remaining : all_hold (universe_of theory.signature) m theory.remaining ≡ true
  pub axioms : all_hold (universe_of theory.signature) m dec_axioms ≡ true
  pub release : all_hold (universe_of theory.signature) m (release_axioms theory.signature) ≡ true

abbrev pub TellsUntrue : Theory → Structure → Option Part → Type 0
TellsUntrue theory m None = IsTrueBeforeGroups theory m
TellsUntrue theory m (Some part) = IsFirstUntrue theory m part
