-- Minimal models: circumscription of each group's predicates in the group's sentences, all else being equal.
use Rattle.std.specs.Prelude.{ℕ, ◌≡◌, ℤ, true, false, List, [], ◌∷◌}
use Rattle.ec_logic.specs.Universe.{Universe, universe_of}
use Rattle.ec_logic.specs.Truth.{Structure, IsStructure}
use Rattle.ec_logic.specs.Axiom.{dec_axioms, release_axioms}
use Rattle.ec_logic.specs.Theory.{Group, Theory, is_in_group, all_hold}

-- One structure is below another in a group: equal outside the group's predicates, each extent included, and one smaller.
pub record IsBelow (group : Group) (n m : Structure) : Type 0 where
  pub outside : (p : ℕ) (vs : List ℤ) → is_in_group group p ≡ false → n p vs ≡ m p vs
  pub included : (p : ℕ) (vs : List ℤ) → n p vs ≡ true → m p vs ≡ true
  pub smaller : (p : ℕ) × (vs : List ℤ) × (m p vs ≡ true) × (n p vs ≡ false)

-- The group's sentences are true, and in no structure below.
pub record IsMinimalIn (universe : Universe) (group : Group) (m : Structure) : Type 0 where
  pub model : all_hold universe m group.sentences ≡ true
  pub least : (n : Structure) → IsBelow group n m → all_hold universe n group.sentences ≡ false

abbrev pub AreMinimalIn : Universe → List Group → Structure → Type 0
AreMinimalIn universe [] m = Unit {0}
AreMinimalIn universe (group ∷ groups) m = IsMinimalIn universe group m × AreMinimalIn universe groups m

-- The remaining sentences and the axioms are true, and each group is minimal.
pub record IsMinimalModel (theory : Theory) (m : Structure) : Type 0 where
  pub structure : IsStructure (universe_of theory.signature) m
  pub remaining : all_hold (universe_of theory.signature) m theory.remaining ≡ true
  pub axioms : all_hold (universe_of theory.signature) m dec_axioms ≡ true
  pub release : all_hold (universe_of theory.signature) m (release_axioms theory.signature) ≡ true
  pub groups : AreMinimalIn (universe_of theory.signature) theory.groups m
