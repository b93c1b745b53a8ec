use Rattle.std.proofs.Common.{◌≡◌, ◌∙◌, ◌+◌, ◌∷◌, ◌++◌, drop, Vec, Global, sym, ap, subst}
use Rattle.std.specs.Borrow.{Bor}
use Rattle.ec_theory.specs.declared.formula.Formula.{Formula}
use Rattle.ec_theory.specs.Theories.{sentence_trees}
use Rattle.ec_theory.specs.View.{formula_tree}
use Rattle.ec_models.specs.Early.{early_of, trees_behind}
use Rattle.ec_models.proofs.Passing.{item_at, early_added, early_passed}
use Rattle.ec_models.proofs.early.early_sentences.Goals as goal
use Rattle.ec_models.proofs.early.early_sentences.Goals.{then-has_no_effects+in_ok-push, else-has_no_effects}

pub loop-sentence-preserved : goal.loop-sentence-preserved
loop-sentence-preserved c =
    let sentences = c.args.sentences.now in
    let f = formula_tree c.sentence-item.result.formula in
    let rest = sentence_trees (drop c.loop-sentence.sentence-index sentences) in
    let later = sentence_trees (drop (c.loop-sentence.sentence-index + 1) sentences) in
    let whole = early_of (sentence_trees sentences) in
    let at : rest ≡ f ∷ later = ap sentence_trees (item_at sentences c.loop-sentence.sentence-index c.sentence-item.result c.loop-sentence-test.true c.sentence-item.is) in
    let P : Vec (Bor Formula) Global → Type 0 = λ early. trees_behind early.items ++ early_of later ≡ whole in
    elim c.if-has_no_effects.branch [
      | then-has_no_effects+in_ok-push w ↦
          subst P (sym w.early-is) (early_added c.loop-sentence.early.items w.push.new.self.items _ later rest whole at (sym c.has_no_effects.ensures ∙ w.if-has_no_effects.true) w.in_ok-push.ensures.items c.loop-sentence.invariant)
      | else-has_no_effects w ↦
          subst P (sym w.early-is) (early_passed c.loop-sentence.early.items f later rest whole at (sym c.has_no_effects.ensures ∙ w.if-has_no_effects.false) c.loop-sentence.invariant)
    ]
