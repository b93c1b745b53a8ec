use Rattle.std.proofs.Common.{◌≡◌, ◌++◌, drop}
use Rattle.ec_theory.specs.Theories.{sentence_trees}
use Rattle.ec_models.specs.Early.{early_of, trees_behind}
use Rattle.ec_models.proofs.early.early_sentences.Given as goal

abbrev pub invariant-loop-sentence : goal.invariant-loop-sentence
invariant-loop-sentence l = trees_behind l.early.items ++ early_of (sentence_trees (drop l.sentence-index l.sentences)) ≡ early_of (sentence_trees l.sentences)
