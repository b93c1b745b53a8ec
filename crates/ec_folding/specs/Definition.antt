-- Definitions of atoms.
use Rattle.std.specs.Prelude.{◌≡◌, ℕ, ◌+◌, Bool, List, [], ◌∷◌}
use Rattle.ec_folding.specs.Tree.{Tree, true_in, nodes}

-- an atom and the tree that it stands for
pub record Definition : Type 0 where
  pub atom : ℕ
  pub scope : Tree

-- the atom has the truth of its tree
abbrev pub Holds : (ℕ → Bool) → Definition → Type 0
Holds v d = v d.atom ≡ true_in v d.scope

-- how many nodes the scopes have together
abbrev pub scope_nodes : List Definition → ℕ
scope_nodes [] = 0
scope_nodes (d ∷ ds) = nodes d.scope + scope_nodes ds
