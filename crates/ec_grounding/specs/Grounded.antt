-- What a theory says of its atoms: trees of its sentences and axioms, and the trees that the atoms of its groups stand for.
use Rattle.std.specs.Prelude.{◌≡◌, ℕ, ◌==◌, ℤ, Bool, true, false, if◌then◌else◌, List, [], ◌∷◌, ◌++◌, map, All, Option, Some, None}
use Rattle.std.specs.List.{flat_map, list_any}
use Rattle.ec_logic.specs.Tree.{Formula}
use Rattle.ec_logic.specs.Universe.{Universe, universe_of}
use Rattle.ec_logic.specs.Atom.{GroundAtom, all_atoms, number_of}
use Rattle.ec_logic.specs.Axiom.{dec_axioms, release_axioms}
use Rattle.ec_logic.specs.Theory.{Group, Theory, is_in_group}
use Rattle.ec_logic.specs.ValidTheory.{effect_predicates}
use Rattle.ec_folding.specs.Tree.{Tree, always, never, true_in}
use Rattle.ec_folding.specs.Definition.{Definition, Holds}
use Rattle.ec_grounding.specs.Folded.{Leaf, fixed, numbered, Reading, folded}
use Rattle.ec_grounding.specs.Scope.{scope_of}

-- ---- what atoms are read as

-- the literal of a number; False where there is none
abbrev pub leaf_of : Option ℕ → Leaf
leaf_of None = fixed false
leaf_of (Some k) = numbered k

-- An atom is the literal of its number, and outside its domains False.
abbrev pub read_by_number : Universe → Reading
read_by_number universe p vs = leaf_of (number_of universe p vs)

abbrev pub is_effect : ℕ → Bool
is_effect p = list_any (λ q. q == p) effect_predicates

-- the first of some groups that has a predicate
abbrev pub group_with : List Group → ℕ → Option Group
group_with [] p = None
group_with (group ∷ groups) p = if is_in_group group p then Some group else group_with groups p

-- the tree of an atom of this group, if it is of a group
abbrev pub scope_in : Universe → Reading → ℕ → List ℤ → Option Group → Option Tree
scope_in universe reading p vs None = None
scope_in universe reading p vs (Some group) = Some (scope_of universe reading group.sentences p vs)

-- an atom whose tree is a constant is that constant
abbrev pub settled : Leaf → Option Tree → Leaf
settled (numbered k) (Some always) = fixed true
settled (numbered k) (Some never) = fixed false
settled leaf tree = leaf

-- the tree of an effect atom, in which no constant of an effect atom is known yet
abbrev pub effect_scope : Theory → ℕ → List ℤ → Option Tree
effect_scope theory p vs = scope_in (universe_of theory.signature) (read_by_number (universe_of theory.signature)) p vs (group_with theory.groups p)

-- What the atoms of a theory are read as: an effect atom whose tree is a constant is that constant wherever it stands.
abbrev pub reading_of : Theory → Reading
reading_of theory p vs = if is_effect p then settled (read_by_number (universe_of theory.signature) p vs) (effect_scope theory p vs) else read_by_number (universe_of theory.signature) p vs

-- ---- the grounded theory

-- the sentences that are asserted: the remaining ones, DEC5 to DEC12 and the release axioms
abbrev pub asserted : Theory → List Formula
asserted theory = theory.remaining ++ dec_axioms ++ release_axioms theory.signature

-- their trees
abbrev pub sentence_trees : Theory → List Tree
sentence_trees theory = map (folded (universe_of theory.signature) (reading_of theory) [] true) (asserted theory)

-- the atom that is read so has a variable
abbrev pub variable_of : Leaf → List ℕ
variable_of (fixed b) = []
variable_of (numbered k) = k ∷ []

-- the numbers of the atoms that have a variable, in the order of the atoms: all visible ones, then the effect atoms that are no constants
abbrev pub variables : Theory → List ℕ
variables theory = flat_map (λ (atom : GroundAtom). variable_of (reading_of theory atom.predicate atom.args)) (all_atoms (universe_of theory.signature))

-- the tree of an atom of a group
abbrev pub atom_scope : Theory → ℕ → List ℤ → Option Tree
atom_scope theory p vs = if is_effect p then effect_scope theory p vs else scope_in (universe_of theory.signature) (reading_of theory) p vs (group_with theory.groups p)

-- the definition of an atom that is read so, if it has a variable and a tree
abbrev pub definition_of : Leaf → Option Tree → List Definition
definition_of (numbered k) (Some scope) = record { atom = k; scope = scope } ∷ []
definition_of leaf tree = []

-- the definitions of the atoms of groups, in the order of the atoms
abbrev pub definitions : Theory → List Definition
definitions theory = flat_map (λ (atom : GroundAtom). definition_of (reading_of theory atom.predicate atom.args) (atom_scope theory atom.predicate atom.args)) (all_atoms (universe_of theory.signature))

-- The sentences' trees are true, and each defined atom has the truth of its tree.
pub record IsGroundModel (theory : Theory) (v : ℕ → Bool) : Type 0 where
  pub sentences : All (λ t. true_in v t ≡ true) (sentence_trees theory)
  pub definitions : All (Holds v) (definitions theory)
