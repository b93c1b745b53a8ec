-- How many nodes the trees of a theory have.
use Rattle.std.specs.Prelude.{ℕ, ◌+◌, ◌*◌, ◌≤◌, length}
use Rattle.ec_logic.specs.Universe.{universe_of}
use Rattle.ec_logic.specs.Atom.{visible_atoms}
use Rattle.ec_logic.specs.Theory.{Theory}
use Rattle.ec_folding.specs.Tree.{as_trees, nodes_of}
use Rattle.ec_folding.specs.Definition.{scope_nodes}
use Rattle.ec_grounding.specs.Grounded.{sentence_trees, definitions}
use Rattle.ec_weight.specs.Weight.{weight_of}

-- of the sentences' trees, and of those that atoms stand for
abbrev pub ground_nodes : Theory → ℕ
ground_nodes theory = nodes_of (as_trees (sentence_trees theory)) + scope_nodes (definitions theory)

-- at most three times the weight of nodes, and one for each visible atom
abbrev pub HasFewNodes : Theory → Type 0
HasFewNodes theory = ground_nodes theory ≤ 3 * weight_of theory + length (visible_atoms (universe_of theory.signature))
