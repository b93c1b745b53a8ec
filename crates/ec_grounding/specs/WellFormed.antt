-- The form of what a theory is grounded to: which atoms its trees speak of, which are defined, and where constants stand.
use Rattle.std.specs.Prelude.{◌≡◌, ℕ, ◌<◌, ◌≤◌, true, List, length, map, All, Contains, Some, slice_get}
use Rattle.std.specs.List.Sorted.{IsStrictlyIncreasing}
use Rattle.ec_logic.specs.Universe.{Universe, universe_of}
use Rattle.ec_logic.specs.Atom.{GroundAtom, visible_atoms, all_atoms, number_of}
use Rattle.ec_logic.specs.Theory.{Theory}
use Rattle.ec_folding.specs.Tree.{EachAtom}
use Rattle.ec_folding.specs.Constants.{is_constant_at_top_only}
use Rattle.ec_folding.specs.Definition.{Definition}
use Rattle.ec_grounding.specs.Grounded.{sentence_trees, variables, definitions}

-- Each atom's number is its place in the order of the atoms.
abbrev pub AreNumbered : Universe → Type 0
AreNumbered universe = (k : ℕ) (atom : GroundAtom) → slice_get (all_atoms universe) k ≡ Some atom → number_of universe atom.predicate atom.args ≡ Some k

-- the atoms that have a definition
abbrev pub defined_atoms : Theory → List ℕ
defined_atoms theory = map (λ (d : Definition). d.atom) (definitions theory)

abbrev pub HasVariable : Theory → ℕ → Type 0
HasVariable theory a = Contains (variables theory) a

abbrev pub visible_count : Theory → ℕ
visible_count theory = length (visible_atoms (universe_of theory.signature))

pub record IsWellFormed (theory : Theory) : Type 0 where
  -- the atoms that have a variable stand in order, each once
  pub rises : IsStrictlyIncreasing (variables theory)
  -- they are all visible atoms
  pub visible : (a : ℕ) → a < visible_count theory → HasVariable theory a
  -- each atom of a sentence
  pub sentence_atoms : All (EachAtom (HasVariable theory)) (sentence_trees theory)
  -- each atom of a tree of an atom
  pub scope_atoms : All (λ (d : Definition). EachAtom (HasVariable theory) d.scope) (definitions theory)
  -- each atom with a definition
  pub defined : All (HasVariable theory) (defined_atoms theory)
  -- and no other: each further atom that has a variable has a definition
  pub others_defined : All (λ a. visible_count theory ≤ a → Contains (defined_atoms theory) a) (variables theory)
  -- a constant stands only as a whole tree
  pub sentence_constants : All (λ t. is_constant_at_top_only t ≡ true) (sentence_trees theory)
  pub scope_constants : All (λ (d : Definition). is_constant_at_top_only d.scope ≡ true) (definitions theory)
