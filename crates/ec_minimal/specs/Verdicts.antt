-- What is said of a structure: that it is a minimal model, or its first untrue part.
use Rattle.std.specs.Prelude.{ℕ, ◌≡◌, true, false, List, [], take, Some, slice_get}
use Rattle.ec_logic.specs.Tree.{Formula}
use Rattle.ec_logic.specs.Universe.{Universe, universe_of}
use Rattle.ec_logic.specs.Truth.{Structure, truth}
use Rattle.ec_logic.specs.Axiom.{dec_axioms, release_axioms}
use Rattle.ec_logic.specs.Theory.{Group, Theory, all_hold}
use Rattle.ec_logic.specs.Minimal.{IsMinimalIn, AreMinimalIn, IsMinimalModel}
use Rattle.ec_minimal.specs.declared.verdict.Part.{Part}
use Rattle.ec_minimal.specs.declared.verdict.Part.TheVariants.{Remaining, Axiom, Release, Group as GroupAt}
use Rattle.ec_minimal.specs.declared.verdict.Verdict.{Verdict}
use Rattle.ec_minimal.specs.declared.verdict.Verdict.TheVariants.{Minimal, Untrue}

-- The sentence at a place is false, and all before it are true.
pub record IsFirstFalse (universe : Universe) (m : Structure) (sentences : List Formula) (place : ℕ) : Type 0 where
  pub before : all_hold universe m (take place sentences) ≡ true
  pub sentence : Formula
  pub there : slice_get sentences place ≡ Some sentence
  pub untrue : truth universe m [] sentence ≡ false

-- The group at a place isn't minimal, and all before it are.
pub record IsFirstUnminimal (universe : Universe) (m : Structure) (groups : List Group) (place : ℕ) : Type 0 where
  pub before : AreMinimalIn universe (take place groups) m
  pub group : Group
  pub there : slice_get groups place ≡ Some group
  pub untrue : IsMinimalIn universe group m → ⊥

-- The part is the first untrue one: of the remaining sentences, then of DEC5 to DEC12, then of the release axioms, then of the groups.
pub data IsFirstUntrue (theory : Theory) (m : Structure) : Part → Type 0 where
  remaining : {place : ℕ} → IsFirstFalse (universe_of theory.signature) m theory.remaining place → IsFirstUntrue theory m (Remaining place)
  axiom_of : {place : ℕ} → all_hold (universe_of theory.signature) m theory.remaining ≡ true → IsFirstFalse (universe_of theory.signature) m dec_axioms place → IsFirstUntrue theory m (Axiom place)
  release : {place : ℕ} → all_hold (universe_of theory.signature) m theory.remaining ≡ true → all_hold (universe_of theory.signature) m dec_axioms ≡ true
      → IsFirstFalse (universe_of theory.signature) m (release_axioms theory.signature) place → IsFirstUntrue theory m (Release place)
  group : {place : ℕ} → all_hold (universe_of theory.signature) m theory.remaining ≡ true → all_hold (universe_of theory.signature) m dec_axioms ≡ true
      → all_hold (universe_of theory.signature) m (release_axioms theory.signature) ≡ true → IsFirstUnminimal (universe_of theory.signature) m theory.groups place → IsFirstUntrue theory m (GroupAt place)

-- A structure is said to be minimal where it is a minimal model, and else its first untrue part is named.
abbrev pub IsVerdict : Theory → Structure → Verdict → Type 0
IsVerdict theory m Minimal = IsMinimalModel theory m
IsVerdict theory m (Untrue part) = IsFirstUntrue theory m part
