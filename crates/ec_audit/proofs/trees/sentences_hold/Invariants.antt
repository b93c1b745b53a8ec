use Rattle.std.proofs.Common.{◌≡◌, drop}
use Rattle.std.specs.List.{list_all}
use Rattle.ec_folding.specs.Tree.{true_in}
use Rattle.ec_prop.specs.Prop.{trees_of, truth_of}
use Rattle.ec_audit.proofs.trees.sentences_hold.Given as goal

abbrev pub invariant-loop-sentence : goal.invariant-loop-sentence
invariant-loop-sentence l = list_all (true_in (truth_of l.truths)) (trees_of (drop l.sentence-index l.sentences)) ≡ list_all (true_in (truth_of l.truths)) (trees_of l.sentences)
