-- What a grounded theory is.
use Rattle.std.specs.Prelude.{◌≡◌, ℕ, ◌+◌, ◌^◌, ◌<◌, ◌≤◌, true, List, map, All, Contains}
use Rattle.std.specs.List.Sorted.{IsStrictlyIncreasing}
use Rattle.ec_folding.specs.Tree.{Tree, as_trees, EachAtom, nodes_of}
use Rattle.ec_folding.specs.Constants.{is_constant_at_top_only}
use Rattle.ec_folding.specs.Definition.{Definition, scope_nodes}
use Rattle.ec_prop.specs.declared.ground.Defined.{Defined}
use Rattle.ec_prop.specs.declared.ground.Grounded.{Grounded}
use Rattle.ec_prop.specs.Prop.{tree_of, trees_of}

-- the definition that a `Defined` is
abbrev pub definition_of : Defined → Definition
definition_of d = record { atom = d.atom; scope = tree_of d.scope }

-- the definitions, in their order
abbrev pub definitions_of : List Defined → List Definition
definitions_of ds = map definition_of ds

-- the sentences as trees
abbrev pub sentences_of : Grounded → List Tree
sentences_of g = trees_of g.sentences.items

-- the scopes of the definitions
abbrev pub scopes_of : Grounded → List Tree
scopes_of g = map (λ (d : Definition). d.scope) (definitions_of g.definitions.items)

-- the atoms that are defined
abbrev pub defined_atoms_of : Grounded → List ℕ
defined_atoms_of g = map (λ (d : Definition). d.atom) (definitions_of g.definitions.items)

-- what holds of a grounded theory whose visible atoms are the atoms below a number
pub record IsGrounded (g : Grounded) (visible : ℕ) : Type 0 where
  -- the atoms that have a variable stand in order, each once
  pub rises : IsStrictlyIncreasing g.variables.items
  -- they are all visible atoms
  pub visible_atoms : (a : ℕ) → a < visible → Contains g.variables.items a
  -- each atom of a sentence
  pub sentence_atoms : All (EachAtom (Contains g.variables.items)) (sentences_of g)
  -- each atom of a scope
  pub scope_atoms : All (EachAtom (Contains g.variables.items)) (scopes_of g)
  -- each atom with a definition
  pub defined_atoms : All (Contains g.variables.items) (defined_atoms_of g)
  -- and no other: each further atom that has a variable has a definition
  pub others_defined : All (λ a. visible ≤ a → Contains (defined_atoms_of g) a) g.variables.items
  -- a constant stands only as a whole tree
  pub sentence_constants : All (λ t. is_constant_at_top_only t ≡ true) (sentences_of g)
  pub scope_constants : All (λ t. is_constant_at_top_only t ≡ true) (scopes_of g)
  -- how much there is
  pub few_nodes : nodes_of (as_trees (sentences_of g)) + scope_nodes (definitions_of g.definitions.items) ≤ 2 ^ 27
  pub few_visible : visible ≤ 262144
