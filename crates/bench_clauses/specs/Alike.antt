-- Sentences that are all alike, over three atoms.
use Rattle.std.specs.Prelude.{ℕ, suc, zero, true, List, [], ◌∷◌}
use Rattle.ec_folding.specs.Tree.{Tree, literal, all_of, any_of, as_trees}

-- a tree so many times
abbrev pub repeated : ℕ → Tree → List Tree
repeated zero t = []
repeated (suc n) t = t ∷ repeated n t

abbrev pub pair_tree : Tree
pair_tree = all_of (as_trees (literal 0 true ∷ literal 1 true ∷ []))

-- 16 nodes, which give four clauses
abbrev pub sentence_tree : Tree
sentence_tree = any_of (as_trees (pair_tree ∷ repeated 12 (literal 2 true)))
