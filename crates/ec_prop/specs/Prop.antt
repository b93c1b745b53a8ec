-- The tree that a `Prop` is.
use Rattle.std.specs.Prelude.{ℕ, Bool, false, List, map, slice_index_or}
use Rattle.ec_folding.specs.Tree as folded
use Rattle.ec_folding.specs.Tree.{as_trees}
use Rattle.ec_prop.specs.declared.tree.Prop.{Prop, fold-Prop}
use Rattle.ec_prop.specs.declared.tree.Prop.TheOpen.{Prop-F}

-- the tree of one level, whose parts are trees already
abbrev pub tree_of_level : Prop-F folded.Tree → folded.Tree
tree_of_level Prop-F.True = folded.always
tree_of_level Prop-F.False = folded.never
tree_of_level (Prop-F.Lit atom positive) = folded.literal atom positive
tree_of_level (Prop-F.And parts) = folded.all_of (as_trees parts.items)
tree_of_level (Prop-F.Or parts) = folded.any_of (as_trees parts.items)

-- the tree that a proposition is
abbrev pub tree_of : Prop → folded.Tree
tree_of = fold-Prop folded.Tree tree_of_level

-- the trees that propositions are
abbrev pub trees_of : List Prop → List folded.Tree
trees_of props = map tree_of props

-- the truth of each atom by a list, false beyond its end
abbrev pub truth_of : List Bool → ℕ → Bool
truth_of bits atom = slice_index_or bits atom false
