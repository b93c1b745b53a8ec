use Rattle.std.proofs.Common.{◌≡◌, drop, length, replicate, false}
use Rattle.ec_logic.specs.Universe.{universe_of}
use Rattle.ec_logic.specs.Atom.{all_atoms, structure_of}
use Rattle.ec_logic.proofs.Marking.{Comes, supported_by_sentences}
use Rattle.ec_theory.specs.Theories.{sentence_trees}
use Rattle.ec_minimal.proofs.supported.supported_atoms.Given as goal

abbrev pub invariant-loop-sentence : goal.invariant-loop-sentence
invariant-loop-sentence l =
    let universe = universe_of l.signature in
    let m = structure_of universe l.structure in
    record {
      room : l.scratch ≡ 16;
      size : length l.marks ≡ length (all_atoms universe);
      rest : Comes universe (structure_of universe l.marks) (supported_by_sentences universe m (sentence_trees (drop l.sentence-index l.sentences))) (structure_of universe (replicate (length (all_atoms universe)) false)) (supported_by_sentences universe m (sentence_trees l.sentences));
    }
