use Rattle.std.proofs.Common.{◌≡◌, ◌++◌, [], true, drop, length, map}
use Rattle.ec_logic.specs.Universe.{universe_of}
use Rattle.ec_theory.specs.Theories.{sentence_trees}
use Rattle.ec_grounding.specs.Folded.{folded}
use Rattle.ec_fold.specs.Known.{read_with}
use Rattle.ec_prop.specs.Prop.{trees_of}
use Rattle.ec_ground.proofs.sentences.add_sentences.Given as goal

abbrev pub invariant-loop-sentence : goal.invariant-loop-sentence
invariant-loop-sentence l = record {
  trees :
      trees_of l.trees.items ++ map (folded (universe_of l.reader.signature.now) (read_with (universe_of l.reader.signature.now) l.reader.known.now) [] true) (sentence_trees (drop l.sentence-index l.sentences))
      ≡ trees_of l.fn.trees.items ++ map (folded (universe_of l.reader.signature.now) (read_with (universe_of l.reader.signature.now) l.reader.known.now) [] true) (sentence_trees l.sentences);
  room : length l.room ≡ length l.fn.room;
}
