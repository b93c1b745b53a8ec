-- That the completed models of a theory are the models of what it is grounded to.
use Rattle.std.specs.Prelude.{◌≡◌, ◌↔◌, ◌<◌, nat_lt, ℕ, ℤ, Bool, true, false, if◌then◌else◌, List, length}
use Rattle.ec_logic.specs.Universe.{Universe, universe_of}
use Rattle.ec_logic.specs.Truth.{Structure, IsTuple, IsStructure}
use Rattle.ec_logic.specs.Theory.{Group, Theory}
use Rattle.ec_logic.specs.ClauseTree.{is_supported}
use Rattle.ec_logic.specs.Completed.{IsCompletedModel}
use Rattle.ec_grounding.specs.Folded.{fixed, numbered, leaf_truth}
use Rattle.ec_grounding.specs.Grounded.{reading_of, IsGroundModel}

-- The atoms that have a variable have the same truths in a structure and in a truth of the numbers.
abbrev pub HasTruths : Theory → Structure → (ℕ → Bool) → Type 0
HasTruths theory m v = (p k : ℕ) (vs : List ℤ) → p < length theory.signature.predicates → reading_of theory p vs ≡ numbered k → v k ≡ m p vs

-- The atoms that are constants are so in a structure.
abbrev pub HasConstants : Theory → Structure → Type 0
HasConstants theory m = (p : ℕ) (vs : List ℤ) (b : Bool) → reading_of theory p vs ≡ fixed b → m p vs ≡ b

-- A group's sentences support tuples of the predicates' domains alone, in each structure.
abbrev pub SupportsTuples : Universe → Group → Type 0
SupportsTuples universe group = (m : Structure) (p : ℕ) (vs : List ℤ) → is_supported universe m group.sentences p vs ≡ true → IsTuple universe p vs

-- A structure is a completed model exactly where its constants are right and its truths of the variables make the sentences' trees true and give each defined atom the truth of its tree.
abbrev pub GivesModels : Theory → Type 0
GivesModels theory = (m : Structure) (v : ℕ → Bool) → IsStructure (universe_of theory.signature) m → HasTruths theory m v → IsCompletedModel theory m ↔ (HasConstants theory m × IsGroundModel theory v)

-- The structure in which each atom is true where what it is read as is, with these truths of the numbers.
abbrev pub structure_read : Theory → (ℕ → Bool) → Structure
structure_read theory v p vs = if nat_lt p (length theory.signature.predicates) then leaf_truth v (reading_of theory p vs) else false

-- That structure is a completed model exactly where the truths make the sentences' trees true and give each defined atom the truth of its tree.
abbrev pub ReadsModels : Theory → Type 0
ReadsModels theory = (v : ℕ → Bool) → IsCompletedModel theory (structure_read theory v) ↔ IsGroundModel theory v

-- Each completed model is read from its truths.
abbrev pub IsReadFromTruths : Theory → Type 0
IsReadFromTruths theory = (m : Structure) (v : ℕ → Bool) → IsCompletedModel theory m → HasTruths theory m v → (p : ℕ) (vs : List ℤ) → m p vs ≡ structure_read theory v p vs
