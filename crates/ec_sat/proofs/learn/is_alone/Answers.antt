use Rattle.std.proofs.Common.{◌≡◌, ◌-◌, ◌∙◌, ◌<◌, false, length, get_or, inl, inr, sym, ap, arith}
use Rattle.std.proofs.lemmas.Bool.{cases_lt, true≢false}
use Rattle.std.proofs.lemmas.Option.{get_or_from_slice_get}
use Rattle.ec_trail.specs.declared.trail.Entry.{Entry}
use Rattle.ec_sat.proofs.learn.is_alone.Goals as goal

pub returns-then-entry-level : goal.returns-then-entry-level
returns-then-entry-level c = λ i d lt marked.
    let es = c.args.trail.now.entries in
    let j = c.loop-below.below - 1 in
    let e = c.entry-entry.result in
    let lj : j < length es = omega (arith, c.loop-below.invariant.0, c.requires.place) in
    let same : get_or es j d ≡ e = get_or_from_slice_get es j e d c.entry-entry.ensures in
    elim (cases_lt i j) [
      | inl l ↦ omega (arith, c.len-count.ensures.trail.rising i j d l lj, ap (λ (x : Entry). x.level) same)
      | inr g ↦ elim (cases_lt j i) [
        | inl above ↦ c.loop-below.invariant.1 i d (omega arith) lt marked
        | inr eq ↦ (let here : i ≡ j = omega arith in omega (arith, ap (λ k. (get_or es k d).level) here, ap (λ (x : Entry). x.level) same))
      ]
    ]

pub loop-below-preserved : goal.loop-below-preserved
loop-below-preserved c = (
  omega (arith, c.loop-below.invariant.0),
  λ i d low lt marked.
      let es = c.args.trail.now.entries in
      let j = c.loop-below.below - 1 in
      let e = c.entry-entry.result in
      let same : get_or es j d ≡ e = get_or_from_slice_get es j e d c.entry-entry.ensures in
      elim (cases_lt j i) [
        | inl above ↦ c.loop-below.invariant.1 i d (omega arith) lt marked
        | inr eq ↦ (
            let here : i ≡ j = omega arith in
            let variable : (get_or es i d).lit.variable ≡ c.variable.result = ap (λ k. (get_or es k d).lit.variable) here ∙ ap (λ (x : Entry). x.lit.variable) same ∙ sym c.variable.ensures.variable in
            absurd (true≢false (sym marked ∙ ap (λ v. get_or c.args.marks.now v false) variable ∙ c.if-marks-variable.false)))
      ],
)
