use Rattle.std.proofs.Common.{◌≡◌, ◌∙◌, ◌+◌, ◌∷◌, List, drop, sym, ap, subst}
use Rattle.std.specs.List.{AllByRecursion}
use Rattle.ec_logic.specs.Tree.{Formula}
use Rattle.ec_logic.specs.Universe.{universe_of}
use Rattle.ec_logic.specs.Atom.{structure_of}
use Rattle.ec_logic.specs.Theory.{all_hold}
use Rattle.ec_logic.specs.ValidTheory.{IsValidSentence}
use Rattle.ec_models.specs.Early.{tree_behind, trees_behind}
use Rattle.ec_models.proofs.Passing.{item_at, later_hold}
use Rattle.ec_models.proofs.early.sentences_hold.Goals as goal

pub loop-sentence-preserved : goal.loop-sentence-preserved
loop-sentence-preserved c =
    let universe = universe_of c.args.signature.now in
    let m = structure_of universe c.args.structure.now in
    let f = tree_behind c.sentence-item.result in
    let rest = trees_behind (drop c.loop-sentence.sentence-index c.args.sentences.now) in
    let later = trees_behind (drop (c.loop-sentence.sentence-index + 1) c.args.sentences.now) in
    let at : rest ≡ f ∷ later = ap trees_behind (item_at c.args.sentences.now c.loop-sentence.sentence-index c.sentence-item.result c.loop-sentence-test.true c.sentence-item.is) in
    let P : List Formula → Type 0 = λ fs. AllByRecursion (IsValidSentence c.args.signature.now) fs in
    record {
      rest = later_hold universe m f later rest (all_hold universe m (trees_behind c.args.sentences.now)) at (sym c.holds.ensures.answer ∙ c.if-not-holds.false) c.loop-sentence.invariant.rest;
      valid = (subst P at c.loop-sentence.invariant.valid).1;
      same = c.holds.ensures.same ∙ c.loop-sentence.invariant.same;
    }
