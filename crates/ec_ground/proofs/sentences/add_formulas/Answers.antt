use Rattle.std.proofs.Common.{◌≤◌, ◌∙◌, ◌∷◌, ◌++◌, [], true, length, map, refl, ap, arith}
use Rattle.std.proofs.lemmas.List.{map-append}
use Rattle.ec_logic.specs.Tree.{Formula}
use Rattle.ec_logic.specs.Universe.{universe_of}
use Rattle.ec_logic.specs.Reach.{nesting}
use Rattle.ec_logic.specs.ValidTheory.{IsSentence}
use Rattle.ec_theory.specs.View.{formula_tree}
use Rattle.ec_prop.specs.Prop.{tree_of, trees_of}
use Rattle.ec_folding.specs.Tree.{Tree}
use Rattle.ec_grounding.specs.Folded.{folded}
use Rattle.ec_fold.specs.Known.{read_with}
use Rattle.ec_ground.proofs.Items.{of_item, each_nested, one_made, all_made}
use Rattle.ec_ground.proofs.sentences.add_formulas.Goals as goal

pub loop-formula-preserved : goal.loop-formula-preserved
loop-formula-preserved c =
    let universe = universe_of c.args.reader.signature.now in
    let fold : Formula → Tree = folded universe (read_with universe c.args.reader.known.now) [] true in
    let made = c.loop-formula.trees.items in
    record {
      trees = one_made (λ x. fold (formula_tree x)) (λ xs. map fold (map formula_tree xs)) (λ x xs. refl) c.args.formulas.now c.loop-formula.formula-index c.formula-item.result (trees_of made) (trees_of c.push.new.self.items) _ c.loop-formula-test.true c.formula-item.is
          (ap trees_of c.in_ok-push.ensures.items ∙ (map-append tree_of made (c.in_ok-fold_sentence.field-0 ∷ []) ∙ ap (λ t. trees_of made ++ t ∷ []) c.in_ok-fold_sentence.ensures.tree)) c.loop-formula.invariant.trees;
      room = c.in_ok-fold_sentence.ensures.room ∙ c.loop-formula.invariant.room;
    }

pub returns-clause-trees : goal.returns-clause-trees
returns-clause-trees c =
    let universe = universe_of c.args.reader.signature.now in
    let fold : Formula → Tree = folded universe (read_with universe c.args.reader.known.now) [] true in
    all_made (λ x. fold (formula_tree x)) (λ xs. map fold (map formula_tree xs)) refl c.args.formulas.now c.loop-formula.formula-index (trees_of c.loop-formula.trees.items) _ c.loop-formula-test.false c.loop-formula.invariant.trees

pub fold_sentence-requires-clause-sentence : goal.fold_sentence-requires-clause-sentence
fold_sentence-requires-clause-sentence c = of_item (IsSentence c.args.reader.signature.now) formula_tree c.args.formulas.now c.loop-formula.formula-index c.formula-item.result c.requires.sentences c.formula-item.is c.loop-formula-test.true

pub fold_sentence-requires-clause-room : goal.fold_sentence-requires-clause-room
fold_sentence-requires-clause-room c =
    let room = length c.args.room.now in
    let each = each_nested room (map formula_tree c.args.formulas.now) c.requires.room in
    omega (arith, of_item (λ f. nesting f ≤ room) formula_tree c.args.formulas.now c.loop-formula.formula-index c.formula-item.result each c.formula-item.is c.loop-formula-test.true, c.loop-formula.invariant.room)
