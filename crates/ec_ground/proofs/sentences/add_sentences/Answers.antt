use Rattle.std.proofs.Common.{◌∙◌, ◌∷◌, ◌++◌, [], true, map, refl, ap, arith}
use Rattle.std.proofs.lemmas.List.{map-append}
use Rattle.ec_logic.specs.Tree.{Formula}
use Rattle.ec_logic.specs.Universe.{universe_of}
use Rattle.ec_logic.specs.ValidTheory.{IsValidSentence}
use Rattle.ec_theory.specs.declared.theory.Sentence.{Sentence}
use Rattle.ec_theory.specs.Theories.{sentence_trees}
use Rattle.ec_theory.specs.View.{formula_tree}
use Rattle.ec_prop.specs.Prop.{tree_of, trees_of}
use Rattle.ec_folding.specs.Tree.{Tree}
use Rattle.ec_grounding.specs.Folded.{folded}
use Rattle.ec_fold.specs.Known.{read_with}
use Rattle.ec_ground.proofs.Items.{of_item, one_made, all_made}
use Rattle.ec_ground.proofs.sentences.add_sentences.Goals as goal

abbrev formula_of : Sentence → Formula
formula_of sentence = formula_tree sentence.formula

pub loop-sentence-preserved : goal.loop-sentence-preserved
loop-sentence-preserved c =
    let universe = universe_of c.args.reader.signature.now in
    let fold : Formula → Tree = folded universe (read_with universe c.args.reader.known.now) [] true in
    let made = c.loop-sentence.trees.items in
    record {
      trees = one_made (λ x. fold (formula_of x)) (λ xs. map fold (sentence_trees xs)) (λ x xs. refl) c.args.sentences.now c.loop-sentence.sentence-index c.sentence-item.result (trees_of made) (trees_of c.push.new.self.items) _ c.loop-sentence-test.true c.sentence-item.is
          (ap trees_of c.in_ok-push.ensures.items ∙ (map-append tree_of made (c.in_ok-fold_sentence.field-0 ∷ []) ∙ ap (λ t. trees_of made ++ t ∷ []) c.in_ok-fold_sentence.ensures.tree)) c.loop-sentence.invariant.trees;
      room = c.in_ok-fold_sentence.ensures.room ∙ c.loop-sentence.invariant.room;
    }

pub returns-clause-trees : goal.returns-clause-trees
returns-clause-trees c =
    let universe = universe_of c.args.reader.signature.now in
    let fold : Formula → Tree = folded universe (read_with universe c.args.reader.known.now) [] true in
    all_made (λ x. fold (formula_of x)) (λ xs. map fold (sentence_trees xs)) refl c.args.sentences.now c.loop-sentence.sentence-index (trees_of c.loop-sentence.trees.items) _ c.loop-sentence-test.false c.loop-sentence.invariant.trees

pub fold_sentence-requires-clause-sentence : goal.fold_sentence-requires-clause-sentence
fold_sentence-requires-clause-sentence c =
    (of_item (IsValidSentence c.args.reader.signature.now) formula_of c.args.sentences.now c.loop-sentence.sentence-index c.sentence-item.result c.requires.sentences c.sentence-item.is c.loop-sentence-test.true).sentence

pub fold_sentence-requires-clause-room : goal.fold_sentence-requires-clause-room
fold_sentence-requires-clause-room c =
    let valid = of_item (IsValidSentence c.args.reader.signature.now) formula_of c.args.sentences.now c.loop-sentence.sentence-index c.sentence-item.result c.requires.sentences c.sentence-item.is c.loop-sentence-test.true in
    omega (arith, valid.nested, c.requires.room, c.loop-sentence.invariant.room)
