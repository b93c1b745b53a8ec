use Rattle.std.proofs.Common.{◌∙◌, sym, arith}
use Rattle.ec_logic.specs.Tree.{Formula}
use Rattle.ec_logic.specs.Universe.{universe_of}
use Rattle.ec_logic.specs.Atom.{structure_of}
use Rattle.ec_logic.specs.ValidTheory.{IsValidSentence}
use Rattle.ec_theory.specs.declared.theory.Sentence.{Sentence}
use Rattle.ec_theory.specs.Theories.{sentence_trees}
use Rattle.ec_theory.specs.View.{formula_tree}
use Rattle.ec_minimal.proofs.FirstLemmas.{item_at, fact_at, next_holds}
use Rattle.ec_minimal.proofs.untrue.first_false_sentence.Goals as goal

abbrev tree_of : Sentence → Formula
tree_of sentence = formula_tree sentence.formula

pub holds-requires-clause-sentence : goal.holds-requires-clause-sentence
holds-requires-clause-sentence c =
    let sentence = c.index-sentences-place.result in
    let at = item_at tree_of c.args.sentences.now c.loop-place.place sentence c.loop-place-test.true c.index-sentences-place.is in
    (fact_at (IsValidSentence c.args.signature.now) (sentence_trees c.args.sentences.now) c.loop-place.place (tree_of sentence) c.requires.sentences at).sentence

pub holds-requires-clause-room : goal.holds-requires-clause-room
holds-requires-clause-room c =
    let sentence = c.index-sentences-place.result in
    let at = item_at tree_of c.args.sentences.now c.loop-place.place sentence c.loop-place-test.true c.index-sentences-place.is in
    let valid = fact_at (IsValidSentence c.args.signature.now) (sentence_trees c.args.sentences.now) c.loop-place.place (tree_of sentence) c.requires.sentences at in
    omega (arith, valid.nested, c.requires.room, c.loop-place.invariant.same)

pub returns-then-not-holds-clause-first : goal.returns-then-not-holds-clause-first
returns-then-not-holds-clause-first c =
    let sentence = c.index-sentences-place.result in
    record {
      before = c.loop-place.invariant.before;
      sentence = tree_of sentence;
      there = item_at tree_of c.args.sentences.now c.loop-place.place sentence c.loop-place-test.true c.index-sentences-place.is;
      untrue = sym c.holds.ensures.answer ∙ c.if-not-holds.true;
    }

pub loop-place-preserved : goal.loop-place-preserved
loop-place-preserved c =
    let universe = universe_of c.args.signature.now in
    let sentence = c.index-sentences-place.result in
    let at = item_at tree_of c.args.sentences.now c.loop-place.place sentence c.loop-place-test.true c.index-sentences-place.is in
    let true_here = sym c.holds.ensures.answer ∙ c.if-not-holds.false in
    record {
      before = next_holds universe (structure_of universe c.args.structure.now) (sentence_trees c.args.sentences.now) c.loop-place.place (tree_of sentence) at true_here c.loop-place.invariant.before;
      same = c.holds.ensures.same ∙ c.loop-place.invariant.same;
    }
