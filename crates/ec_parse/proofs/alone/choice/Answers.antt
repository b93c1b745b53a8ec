use Rattle.std.proofs.Common.{◌≡◌, ◌∙◌, ap, sym}
use Rattle.ec_parse.specs.Lines.{choice, ignored, first_word, after_word}
use Rattle.ec_parse.proofs.LineSteps.{nonempty, empty_of, no_third}
use Rattle.ec_parse.proofs.alone.choice.Goals as goal

pub returns-in_default : goal.returns-in_default
returns-in_default c =
    let w : c.cut.result.0.now ≡ first_word c.args.text.now = c.cut.ensures.word ∙ ap first_word c.bytes.ensures in
    ignored (λ e. nonempty _ c.if-is_empty.ensures (w ∙ e)) (rw w at c.in_default.ensures)

pub returns-then-not-is_empty : goal.returns-then-not-is_empty
returns-then-not-is_empty c = λ x d.
    let w : c.cut.result.0.now ≡ first_word c.args.text.now = c.cut.ensures.word ∙ ap first_word c.bytes.ensures in
    let t : c.cut-3.result.0.now ≡ first_word (after_word (after_word c.args.text.now)) = c.cut-3.ensures.word ∙ ap first_word (c.cut-2.ensures.rest ∙ ap after_word (c.cut.ensures.rest ∙ ap after_word c.bytes.ensures)) in
    no_third _ (rw w at c.in-Some.ensures.0) (λ e. nonempty _ c.if-not-is_empty.ensures (t ∙ e)) d

pub returns : goal.returns
returns c =
    let w : c.cut.result.0.now ≡ first_word c.args.text.now = c.cut.ensures.word ∙ ap first_word c.bytes.ensures in
    let s : c.cut-2.result.0.now ≡ first_word (after_word c.args.text.now) = c.cut-2.ensures.word ∙ ap first_word (c.cut.ensures.rest ∙ ap after_word c.bytes.ensures) in
    let t : c.cut-3.result.0.now ≡ first_word (after_word (after_word c.args.text.now)) = c.cut-3.ensures.word ∙ ap first_word (c.cut-2.ensures.rest ∙ ap after_word (c.cut.ensures.rest ∙ ap after_word c.bytes.ensures)) in
    let n : c.in_ok-name.name ≡ first_word c.args.text.now = c.in_ok-name.ensures ∙ (c.as_bytes.ensures.value ∙ (c.in-Some.ensures.1 ∙ w)) in
    rw n (choice (rw w at c.in-Some.ensures.0) (rw s at (sym c.in-Some-switch_at.ensures)) (sym t ∙ empty_of _ c.if-not-is_empty.ensures))
