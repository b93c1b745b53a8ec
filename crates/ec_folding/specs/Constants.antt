-- Where constants stand in a tree.
use Rattle.std.specs.Prelude.{Bool, true, false, ◌&&◌}
use Rattle.ec_folding.specs.Tree.{Tree, always, never, literal, all_of, any_of, Trees, no_trees, tree}

abbrev mutual
  -- whether no constant stands anywhere in a tree
  pub has_no_constant : Tree → Bool
  has_no_constant always = false
  has_no_constant never = false
  has_no_constant (literal a positive) = true
  has_no_constant (all_of ts) = have_no_constant ts
  has_no_constant (any_of ts) = have_no_constant ts

  -- whether none stands in these trees
  pub have_no_constant : Trees → Bool
  have_no_constant no_trees = true
  have_no_constant (tree t ts) = has_no_constant t && have_no_constant ts

-- whether a constant stands in a tree only as the whole tree
abbrev pub is_constant_at_top_only : Tree → Bool
is_constant_at_top_only always = true
is_constant_at_top_only never = true
is_constant_at_top_only (literal a positive) = true
is_constant_at_top_only (all_of ts) = have_no_constant ts
is_constant_at_top_only (any_of ts) = have_no_constant ts
