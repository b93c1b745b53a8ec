-- Trees that tests build.
use Rattle.std.specs.Prelude.{◌≡◌, ℕ, ◌<◌, ◌≤◌, true}
use Rattle.ec_folding.specs.Tree.{Tree, EachAtom, nodes}
use Rattle.ec_folding.specs.Constants.{has_no_constant}

-- a tree over the atoms 0, 1 and 2 without constants, of at most so many nodes
pub record IsSample (size : ℕ) (t : Tree) : Type 0 where
  pub atoms : EachAtom (λ a. a < 3) t
  pub no_constant : has_no_constant t ≡ true
  pub few_nodes : nodes t ≤ size
