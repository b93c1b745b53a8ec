use Rattle.std.proofs.Common.{◌∙◌, ◌+◌, Bool, List, length, drop, replicate, false, sym, subst, arith}
use Rattle.ec_logic.specs.Tree.{Formula}
use Rattle.ec_logic.specs.Universe.{universe_of}
use Rattle.ec_logic.specs.Atom.{all_atoms, structure_of}
use Rattle.ec_logic.proofs.Marking.{Comes, comes_start, comes_sentence, supported_by_sentences}
use Rattle.ec_theory.specs.Theories.{sentence_trees}
use Rattle.ec_theory.specs.View.{formula_tree}
use Rattle.ec_minimal.proofs.SupportLemmas.{blank_of, blank_size, next_valid, next_sentence, no_more, marked_all}
use Rattle.ec_minimal.proofs.supported.supported_atoms.Goals as goal

pub loop-sentence-init : goal.loop-sentence-init
loop-sentence-init c =
    let signature = c.args.signature.now in
    let universe = universe_of signature in
    let m = structure_of universe c.args.structure.now in
    let fs = sentence_trees c.args.sentences.now in
    let blank = blank_of c.args.atoms.now signature c.in_ok-marks.marks c.requires.of c.in_ok-marks.ensures in
    let start = structure_of universe (replicate (length (all_atoms universe)) false) in
    let C : List Bool → Type 0 = λ bits. Comes universe (structure_of universe bits) (supported_by_sentences universe m fs) start (supported_by_sentences universe m fs) in
    record {
      room = c.in_ok-scratch.ensures;
      size = blank_size c.in_ok-marks.marks (length (all_atoms universe)) blank;
      rest = subst C (sym blank) (comes_start universe start (supported_by_sentences universe m fs));
    }

pub mark_supported-requires-clause-sentence : goal.mark_supported-requires-clause-sentence
mark_supported-requires-clause-sentence c = (next_valid c.args.signature.now c.args.sentences.now c.loop-sentence.sentence-index c.sentence-item.result c.requires.sentences c.loop-sentence-test.true c.sentence-item.is).sentence

pub mark_supported-requires-clause-room : goal.mark_supported-requires-clause-room
mark_supported-requires-clause-room c =
    let one = next_valid c.args.signature.now c.args.sentences.now c.loop-sentence.sentence-index c.sentence-item.result c.requires.sentences c.loop-sentence-test.true c.sentence-item.is in
    omega (arith, one.nested, c.loop-sentence.invariant.room)

pub loop-sentence-preserved : goal.loop-sentence-preserved
loop-sentence-preserved c =
    let universe = universe_of c.args.signature.now in
    let m = structure_of universe c.args.structure.now in
    let f = formula_tree c.sentence-item.result.formula in
    let later = sentence_trees (drop (c.loop-sentence.sentence-index + 1) c.args.sentences.now) in
    let all = supported_by_sentences universe m (sentence_trees c.args.sentences.now) in
    let start = structure_of universe (replicate (length (all_atoms universe)) false) in
    let e = next_sentence c.args.sentences.now c.loop-sentence.sentence-index c.sentence-item.result c.loop-sentence-test.true c.sentence-item.is in
    let C : List Formula → Type 0 = λ fs. Comes universe (structure_of universe c.loop-sentence.marks) (supported_by_sentences universe m fs) start all in
    record {
      room = c.mark_supported.ensures.same ∙ c.loop-sentence.invariant.room;
      size = c.mark_supported.ensures.size ∙ c.loop-sentence.invariant.size;
      rest = comes_sentence universe m f later (structure_of universe c.loop-sentence.marks) (structure_of universe c.mark_supported.new.marks) start all c.mark_supported.ensures.marks (subst C e c.loop-sentence.invariant.rest);
    }

pub returns-clause-supported : goal.returns-clause-supported
returns-clause-supported c =
    let universe = universe_of c.args.signature.now in
    let m = structure_of universe c.args.structure.now in
    let all = supported_by_sentences universe m (sentence_trees c.args.sentences.now) in
    let start = structure_of universe (replicate (length (all_atoms universe)) false) in
    let C : List Formula → Type 0 = λ fs. Comes universe (structure_of universe c.loop-sentence.marks) (supported_by_sentences universe m fs) start all in
    let done = subst C (no_more c.args.sentences.now c.loop-sentence.sentence-index c.loop-sentence-test.false) c.loop-sentence.invariant.rest in
    marked_all c.args.signature.now c.sorts-sorts.ensures.valid m (sentence_trees c.args.sentences.now) (length (all_atoms universe)) c.loop-sentence.marks c.requires.sentences c.loop-sentence.invariant.size done
