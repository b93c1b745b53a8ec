-- The tree that an atom of a group stands for: that one of the instances whose head it is has only true bodies.
use Rattle.std.specs.Prelude.{ℕ, ◌==◌, ℤ, Bool, true, ◌&&◌, List, [], map, filter}
use Rattle.std.specs.List.{flat_map}
use Rattle.ec_logic.specs.Tree.{Formula}
use Rattle.ec_logic.specs.Universe.{Universe}
use Rattle.ec_logic.specs.Value.{values, same_values}
use Rattle.ec_logic.specs.Paths.{Path, paths, instances, bodies}
use Rattle.ec_folding.specs.Tree.{Tree}
use Rattle.ec_folding.specs.Join.{conj, disj}
use Rattle.ec_grounding.specs.Folded.{Reading, folded}

-- whether a tuple of a predicate is the head of a path's instance under these values
abbrev pub is_head : Universe → ℕ → List ℤ → Path → List ℤ → Bool
is_head universe p vs path env = (path.predicate == p) && same_values (values universe env path.args) vs

-- that all bodies of an instance are true
abbrev pub instance_tree : Universe → Reading → Path → List ℤ → Tree
instance_tree universe reading path env = conj (map (folded universe reading env true) (bodies path.steps))

-- the trees of a path's instances with this head, the first binder changing slowest
abbrev pub path_trees : Universe → Reading → ℕ → List ℤ → Path → List Tree
path_trees universe reading p vs path = map (instance_tree universe reading path) (filter (is_head universe p vs path) (instances universe [] path.steps))

-- the tree of an atom, over these sentences in order and their paths in reading order
abbrev pub scope_of : Universe → Reading → List Formula → ℕ → List ℤ → Tree
scope_of universe reading sentences p vs = disj (flat_map (path_trees universe reading p vs) (flat_map paths sentences))
