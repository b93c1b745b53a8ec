use Rattle.std.proofs.Common.{◌≡◌, ◌<◌, drop, length}
use Rattle.ec_folding.specs.Tree.{each_true, some_true, as_trees, EachAtomOf}
use Rattle.ec_prop.specs.Prop.{trees_of, truth_of}
use Rattle.ec_prop.proofs.tree.+truth.Given as goal

abbrev pub invariant-each_true_in-loop-part : goal.invariant-each_true_in-loop-part
invariant-each_true_in-loop-part l = record {
  below : EachAtomOf (λ atom. atom < length l.truth) (as_trees (trees_of (drop l.part-index l.parts)));
  rest : each_true (truth_of l.truth) (as_trees (trees_of (drop l.part-index l.parts))) ≡ each_true (truth_of l.truth) (as_trees (trees_of l.parts));
}

abbrev pub invariant-some_true_in-loop-part : goal.invariant-some_true_in-loop-part
invariant-some_true_in-loop-part l = record {
  below : EachAtomOf (λ atom. atom < length l.truth) (as_trees (trees_of (drop l.part-index l.parts)));
  rest : some_true (truth_of l.truth) (as_trees (trees_of (drop l.part-index l.parts))) ≡ some_true (truth_of l.truth) (as_trees (trees_of l.parts));
}
