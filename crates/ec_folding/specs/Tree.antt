-- Trees of literals of atoms, and their truth.
use Rattle.std.specs.Prelude.{ℕ, ◌+◌, Bool, true, false, not, ◌&&◌, ◌||◌, List, [], ◌∷◌}

-- a constant, a literal of an atom, or trees under And or under Or
mutual
  pub data Tree : Type 0 where
    always : Tree
    never : Tree
    literal : ℕ → Bool → Tree
    all_of : Trees → Tree
    any_of : Trees → Tree

  pub data Trees : Type 0 where
    no_trees : Trees
    tree : Tree → Trees → Trees

-- a list as the parts of an And or an Or
abbrev pub as_trees : List Tree → Trees
as_trees [] = no_trees
as_trees (t ∷ ts) = tree t (as_trees ts)

-- the parts of an And or an Or as a list
abbrev pub as_list : Trees → List Tree
as_list no_trees = []
as_list (tree t ts) = t ∷ as_list ts

-- ---- truth

-- a truth as it is, or its opposite
abbrev pub under_sign : Bool → Bool → Bool
under_sign true b = b
under_sign false b = not b

abbrev mutual
  -- whether a tree is true where the atoms have these truths
  pub true_in : (ℕ → Bool) → Tree → Bool
  true_in v always = true
  true_in v never = false
  true_in v (literal a positive) = under_sign positive (v a)
  true_in v (all_of ts) = each_true v ts
  true_in v (any_of ts) = some_true v ts

  -- whether all of them are
  pub each_true : (ℕ → Bool) → Trees → Bool
  each_true v no_trees = true
  each_true v (tree t ts) = true_in v t && each_true v ts

  -- whether one of them is
  pub some_true : (ℕ → Bool) → Trees → Bool
  some_true v no_trees = false
  some_true v (tree t ts) = true_in v t || some_true v ts

-- ---- atoms and size

abbrev mutual
  -- a fact holds of each atom of a tree
  pub EachAtom : (ℕ → Type 0) → Tree → Type 0
  EachAtom P always = Unit {0}
  EachAtom P never = Unit {0}
  EachAtom P (literal a positive) = P a
  EachAtom P (all_of ts) = EachAtomOf P ts
  EachAtom P (any_of ts) = EachAtomOf P ts

  -- a fact holds of each atom of these trees
  pub EachAtomOf : (ℕ → Type 0) → Trees → Type 0
  EachAtomOf P no_trees = Unit {0}
  EachAtomOf P (tree t ts) = EachAtom P t × EachAtomOf P ts

abbrev mutual
  -- how many constants, literals, Ands and Ors a tree has
  pub nodes : Tree → ℕ
  nodes always = 1
  nodes never = 1
  nodes (literal a positive) = 1
  nodes (all_of ts) = nodes_of ts + 1
  nodes (any_of ts) = nodes_of ts + 1

  -- how many these trees have together
  pub nodes_of : Trees → ℕ
  nodes_of no_trees = 0
  nodes_of (tree t ts) = nodes t + nodes_of ts
