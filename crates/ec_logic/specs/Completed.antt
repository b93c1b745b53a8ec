-- Completed models: each atom of a group is true exactly where the group supports it.
use Rattle.std.specs.Prelude.{ℕ, ◌≡◌, ℤ, true, if◌then◌else◌, List, [], ◌∷◌}
use Rattle.std.specs.List.{list_any, flat_map}
use Rattle.ec_logic.specs.Universe.{Universe, universe_of}
use Rattle.ec_logic.specs.Truth.{Structure, IsStructure}
use Rattle.ec_logic.specs.Axiom.{dec_axioms, release_axioms}
use Rattle.ec_logic.specs.Theory.{Group, Theory, is_in_group, all_hold}
use Rattle.ec_logic.specs.ClauseTree.{is_supported}
use Rattle.ec_logic.specs.Paths.{paths, path_supports}

-- An atom of the group is true exactly where the group's sentences support it.
abbrev pub IsCompletedIn : Universe → Group → Structure → Type 0
IsCompletedIn universe group m = (p : ℕ) (vs : List ℤ) → is_in_group group p ≡ true → m p vs ≡ is_supported universe m group.sentences p vs

-- An atom of the group is true exactly where it is the head of an instance of one of the group's paths whose bodies are all true: the same, said by paths.
abbrev pub IsCompletedByPaths : Universe → Group → Structure → Type 0
IsCompletedByPaths universe group m = (p : ℕ) (vs : List ℤ) → is_in_group group p ≡ true → m p vs ≡ list_any (path_supports universe m p vs []) (flat_map paths group.sentences)

abbrev pub AreCompletedIn : Universe → List Group → Structure → Type 0
AreCompletedIn universe [] m = Unit {0}
AreCompletedIn universe (group ∷ groups) m = IsCompletedIn universe group m × AreCompletedIn universe groups m

-- The remaining sentences and the axioms are true, and each group is completed.
pub record IsCompletedModel (theory : Theory) (m : Structure) : Type 0 where
  pub structure : IsStructure (universe_of theory.signature) m
  pub remaining : all_hold (universe_of theory.signature) m theory.remaining ≡ true
  pub axioms : all_hold (universe_of theory.signature) m dec_axioms ≡ true
  pub release : all_hold (universe_of theory.signature) m (release_axioms theory.signature) ≡ true
  pub groups : AreCompletedIn (universe_of theory.signature) theory.groups m

-- the structure in which the group's atoms are those that it supports, and all else is as before
abbrev pub filled : Universe → Group → Structure → Structure
filled universe group m p vs = if is_in_group group p then is_supported universe m group.sentences p vs else m p vs
