use Rattle.std.proofs.Common.{◌≡◌, drop}
use Rattle.std.specs.List.{AllByRecursion}
use Rattle.ec_logic.specs.Universe.{universe_of}
use Rattle.ec_logic.specs.Atom.{structure_of}
use Rattle.ec_logic.specs.Theory.{all_hold}
use Rattle.ec_logic.specs.ValidTheory.{IsValidSentence}
use Rattle.ec_models.specs.Early.{trees_behind}
use Rattle.ec_models.proofs.early.sentences_hold.Given as goal

abbrev pub invariant-loop-sentence : goal.invariant-loop-sentence
invariant-loop-sentence l = record {
  rest : all_hold (universe_of l.signature) (structure_of (universe_of l.signature) l.structure) (trees_behind (drop l.sentence-index l.sentences)) ≡ all_hold (universe_of l.signature) (structure_of (universe_of l.signature) l.structure) (trees_behind l.sentences);
  valid : AllByRecursion (IsValidSentence l.signature) (trees_behind (drop l.sentence-index l.sentences));
  same : l.scratch ≡ l.fn.scratch;
}
