use Rattle.std.proofs.Common.{◌≡◌, ◌∙◌, ◌++◌, List, [], true, All, map, sym, subst, arith, length, ap}
use Rattle.ec_logic.specs.Tree as tree
use Rattle.ec_logic.specs.Axiom.{dec_axioms, release_axioms}
use Rattle.ec_logic.specs.Reach.{nesting_of}
use Rattle.ec_logic.specs.TreeList.{formulas_of}
use Rattle.ec_logic.specs.Universe.{universe_of}
use Rattle.ec_logic.specs.ValidTheory.{IsSentence}
use Rattle.ec_logic.proofs.AxiomSentences.{dec_sentences, release_sentences}
use Rattle.ec_theory.specs.Theories.{sentence_trees}
use Rattle.ec_theory.specs.View.{formula_tree}
use Rattle.ec_folding.specs.Tree.{Tree}
use Rattle.ec_prop.specs.Prop.{trees_of}
use Rattle.ec_grounding.specs.Folded.{folded}
use Rattle.ec_fold.specs.Known.{read_with}
use Rattle.ec_ground.proofs.Parts.{three_viewed}
use Rattle.ec_ground.proofs.sentences.asserted_trees.Goals as goal

pub add_sentences-requires-clause-room : goal.add_sentences-requires-clause-room
add_sentences-requires-clause-room c = omega (arith, ap length c.deref_mut.ensures.value, c.in_ok-room.ensures.file)

pub add_sentences-requires-clause-depth : goal.add_sentences-requires-clause-depth
add_sentences-requires-clause-depth c = omega (arith, ap length c.deref_mut.ensures.value, c.in_ok-room.ensures.depth)

pub add_formulas-requires-clause-sentences : goal.add_formulas-requires-clause-sentences
add_formulas-requires-clause-sentences c =
    let P : List tree.Formula → Type 0 = All (IsSentence c.args.reader.signature.now) in
    subst P (sym (ap (map formula_tree) c.deref.ensures.value ∙ c.in_ok-dec.ensures)) (dec_sentences c.args.reader.signature.now c.requires.signature)

pub add_formulas-requires-2-clause-sentences : goal.add_formulas-requires-2-clause-sentences
add_formulas-requires-2-clause-sentences c =
    let P : List tree.Formula → Type 0 = All (IsSentence c.args.reader.signature.now) in
    subst P (sym (ap (map formula_tree) c.deref-2.ensures.value ∙ c.in_ok-release.ensures)) (release_sentences c.args.reader.signature.now c.requires.signature)

-- the room is as long as it was
pub add_formulas-requires-clause-depth : goal.add_formulas-requires-clause-depth
add_formulas-requires-clause-depth c =
    let count : length c.deref_mut-2.result.now ≡ length c.in_ok-room.room.items = c.deref_mut-2.ensures.len ∙ (sym c.deref_mut.ensures.len ∙ ap length c.deref_mut.ensures.value) in
    omega (arith, count, c.in_ok-room.ensures.depth)

pub add_formulas-requires-2-clause-room : goal.add_formulas-requires-2-clause-room
add_formulas-requires-2-clause-room c =
    let count : length c.deref_mut-3.result.now ≡ length c.in_ok-room.room.items = c.deref_mut-3.ensures.len ∙ (sym c.deref_mut.ensures.len ∙ ap length c.deref_mut.ensures.value) in
    let release = ap (λ fs. nesting_of (formulas_of fs)) (ap (map formula_tree) c.deref-2.ensures.value ∙ c.in_ok-release.ensures) in
    omega (arith, count, release, c.in_ok-room.ensures.release)

pub add_formulas-requires-2-clause-depth : goal.add_formulas-requires-2-clause-depth
add_formulas-requires-2-clause-depth c =
    let count : length c.deref_mut-3.result.now ≡ length c.in_ok-room.room.items = c.deref_mut-3.ensures.len ∙ (sym c.deref_mut.ensures.len ∙ ap length c.deref_mut.ensures.value) in
    omega (arith, count, c.in_ok-room.ensures.depth)

pub returns : goal.returns
returns c =
    let signature = c.args.reader.signature.now in
    let universe = universe_of signature in
    let tree_of : tree.Formula → Tree = folded universe (read_with universe c.args.reader.known.now) [] true in
    let dec = ap (map formula_tree) c.deref.ensures.value ∙ c.in_ok-dec.ensures in
    let release = ap (map formula_tree) c.deref-2.ensures.value ∙ c.in_ok-release.ensures in
    record {
      trees = three_viewed tree_of (trees_of c.new-trees.result.items) (trees_of c.add_sentences.new.trees.items) (trees_of c.add_formulas.new.trees.items) (trees_of c.add_formulas-2.new.trees.items)
          (sentence_trees c.args.remaining.now) dec_axioms (release_axioms signature)
          (ap trees_of c.new-trees.ensures.items)
          c.in_ok-add_sentences.ensures.trees
          (c.in_ok-add_formulas.ensures.trees ∙ ap (λ fs. trees_of c.add_sentences.new.trees.items ++ map tree_of fs) dec)
          (c.in_ok-add_formulas-2.ensures.trees ∙ ap (λ fs. trees_of c.add_formulas.new.trees.items ++ map tree_of fs) release);
    }
