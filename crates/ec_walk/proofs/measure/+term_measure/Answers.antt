use Rattle.std.proofs.Common.{◌≡◌, Some, sym, ap, ◌∙◌}
use Rattle.ec_syntax.specs.Written.{Term}
use Rattle.ec_syntax.specs.View.{term_of}
use Rattle.ec_walk.specs.Measures.{measured}
use Rattle.ec_walk.proofs.TermViews.{term_of-Sum, term_of-Difference, term_of-Product, term_of-Negative}
use Rattle.ec_walk.proofs.MeasureLemmas.{sum_measured, difference_measured, product_measured, negative_measured}
use Rattle.ec_walk.proofs.measure.+term_measure.Goals as goal

pub returns-in_ok-term_measure-in-Sum-2-clause-measure : goal.returns-in_ok-term_measure-in-Sum-2-clause-measure
returns-in_ok-term_measure-in-Sum-2-clause-measure t c =
    let names = c.args.names.now in
    let a = c.in-Sum.a.value in
    let b = c.in-Sum.b.value in
    let e : Some c.in_ok-term_measure-in-Sum.field-0 ≡ measured names (term_of a) = c.in_ok-term_measure-in-Sum.ensures.measure ∙ ap (λ y. measured names (term_of y)) c.deref.ensures in
    let h : Some c.in_ok-term_measure-in-Sum-2.field-0 ≡ measured names (term_of b) = c.in_ok-term_measure-in-Sum-2.ensures.measure ∙ ap (λ y. measured names (term_of y)) c.deref-in-Sum.ensures in
    c.plus.ensures.measure ∙ sum_measured names (term_of a) (term_of b) _ _ e h ∙ ap (λ (y : Term). measured names y) (sym (ap term_of c.in-Sum.is ∙ term_of-Sum c.in-Sum.a c.in-Sum.b))

pub returns-in_ok-term_measure-in-Difference-2-clause-measure : goal.returns-in_ok-term_measure-in-Difference-2-clause-measure
returns-in_ok-term_measure-in-Difference-2-clause-measure t c =
    let names = c.args.names.now in
    let a = c.in-Difference.a.value in
    let b = c.in-Difference.b.value in
    let e : Some c.in_ok-term_measure-in-Difference.field-0 ≡ measured names (term_of a) = c.in_ok-term_measure-in-Difference.ensures.measure ∙ ap (λ y. measured names (term_of y)) c.deref-in-Difference.ensures in
    let h : Some c.in_ok-term_measure-in-Difference-2.field-0 ≡ measured names (term_of b) = c.in_ok-term_measure-in-Difference-2.ensures.measure ∙ ap (λ y. measured names (term_of y)) c.deref-in-Difference-2.ensures in
    c.less.ensures.measure ∙ difference_measured names (term_of a) (term_of b) _ _ e h ∙ ap (λ (y : Term). measured names y) (sym (ap term_of c.in-Difference.is ∙ term_of-Difference c.in-Difference.a c.in-Difference.b))

pub returns-in_ok-term_measure-in-Product-2-clause-measure : goal.returns-in_ok-term_measure-in-Product-2-clause-measure
returns-in_ok-term_measure-in-Product-2-clause-measure t c =
    let names = c.args.names.now in
    let a = c.in-Product.a.value in
    let b = c.in-Product.b.value in
    let e : Some c.in_ok-term_measure-in-Product.field-0 ≡ measured names (term_of a) = c.in_ok-term_measure-in-Product.ensures.measure ∙ ap (λ y. measured names (term_of y)) c.deref-in-Product.ensures in
    let h : Some c.in_ok-term_measure-in-Product-2.field-0 ≡ measured names (term_of b) = c.in_ok-term_measure-in-Product-2.ensures.measure ∙ ap (λ y. measured names (term_of y)) c.deref-in-Product-2.ensures in
    c.times.ensures.measure ∙ product_measured names (term_of a) (term_of b) _ _ e h ∙ ap (λ (y : Term). measured names y) (sym (ap term_of c.in-Product.is ∙ term_of-Product c.in-Product.a c.in-Product.b))

pub returns-in_ok-term_measure-in-Negative-clause-measure : goal.returns-in_ok-term_measure-in-Negative-clause-measure
returns-in_ok-term_measure-in-Negative-clause-measure t c =
    let names = c.args.names.now in
    let a = c.in-Negative.a.value in
    let e : Some c.in_ok-term_measure-in-Negative.field-0 ≡ measured names (term_of a) = c.in_ok-term_measure-in-Negative.ensures.measure ∙ ap (λ y. measured names (term_of y)) c.deref-in-Negative.ensures in
    ap Some c.negative.ensures.measure ∙ negative_measured names (term_of a) _ e ∙ ap (λ (y : Term). measured names y) (sym (ap term_of c.in-Negative.is ∙ term_of-Negative c.in-Negative.a))
