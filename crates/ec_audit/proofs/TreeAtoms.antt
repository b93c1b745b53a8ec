-- Facts of the atoms of a tree.
use Rattle.std.proofs.Common.{ℕ}
use Rattle.ec_folding.specs.Tree.{Tree, always, never, literal, all_of, any_of, Trees, no_trees, tree, EachAtom, EachAtomOf}

-- what each atom of a tree has, where it has more
module _ (P Q : ℕ → Type 0) (go : (a : ℕ) → P a → Q a) where
  mutual
    pub each_weaker : (t : Tree) → EachAtom P t → EachAtom Q t
    each_weaker always h = tt
    each_weaker never h = tt
    each_weaker (literal a positive) h = go a h
    each_weaker (all_of ts) h = each_of_weaker ts h
    each_weaker (any_of ts) h = each_of_weaker ts h

    each_of_weaker : (ts : Trees) → EachAtomOf P ts → EachAtomOf Q ts
    each_of_weaker no_trees h = tt
    each_of_weaker (tree t ts) h = (each_weaker t h.0, each_of_weaker ts h.1)
