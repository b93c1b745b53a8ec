use Rattle.std.proofs.Common.{◌+◌, get_or, sym, ap, subst, ◌∙◌, inl, inr, refl, arith, Vec, Global}
use Rattle.ec_clause.specs.declared.lit.Lit.{Lit}
use Rattle.ec_sat.proofs.Listed.{IsReading, reading_skip, reading_off, reading_on, reading_end}
use Rattle.ec_sat.proofs.learn.left.Goals as goal
use Rattle.ec_sat.proofs.learn.left.Goals.{then-next-place+then-place-count+then-marks-variable+in_ok-push, then-next-place+then-place-count+else-marks-variable, else-next-place, else-next-place-via-then-next-place+else-place-count, else-next-place-via-else-next-place}

pub loop-place-preserved : goal.loop-place-preserved
loop-place-preserved c =
    let es = c.args.trail.now.entries in
    let m = c.args.marks.now in
    let places = c.args.places.now in
    let count = c.args.count in
    let next = c.loop-place.next in
    let j = c.loop-place.place-index in
    let x = get_or places j 0 in
    let lits = c.loop-place.lits.items in
    let more = c.if-next-place.lits.items in
    let lj = c.loop-place-test.true in
    elim c.if-next-place.branch [
      | then-next-place+then-place-count+then-marks-variable+in_ok-push w ↦ (
          let grown = ap (λ (v : Vec Lit Global). v.items) w.lits-is ∙ w.in_ok-push.ensures.items in
          subst (λ k. IsReading es m places count k (j + 1) more) (sym w.next-is) (reading_on es m places count next j x w.variable.result w.entry-entry.result w.opposite.result lits more c.requires.count c.requires.rising c.requires.listed lj refl w.if-next-place.true w.if-place-count.true w.entry-entry.ensures w.variable.ensures.variable w.if-marks-variable.true w.opposite.ensures grown c.loop-place.invariant))
      | then-next-place+then-place-count+else-marks-variable w ↦ (
          let same = ap (λ (v : Vec Lit Global). v.items) w.lits-is in
          let step = reading_off es m places count next j x w.variable.result w.entry-entry.result lits c.requires.count c.requires.rising c.requires.listed lj refl w.if-next-place.true w.if-place-count.true w.entry-entry.ensures w.variable.ensures.variable w.if-marks-variable.false c.loop-place.invariant in
          subst (λ xs. IsReading es m places count c.if-next-place.next (j + 1) xs) (sym same) (subst (λ k. IsReading es m places count k (j + 1) lits) (sym w.next-is) step))
      | else-next-place w ↦ (
          let same = ap (λ (v : Vec Lit Global). v.items) w.lits-is in
          let step = reading_skip es m places count next j x lits lj refl (elim w.else-next-place.branch [
            | else-next-place-via-then-next-place+else-place-count w' ↦ inr (omega (arith, w'.if-place-count.false))
            | else-next-place-via-else-next-place w' ↦ inl (omega (arith, w'.if-next-place.false))
          ]) c.loop-place.invariant in
          subst (λ xs. IsReading es m places count c.if-next-place.next (j + 1) xs) (sym same) (subst (λ k. IsReading es m places count k (j + 1) lits) (sym w.next-is) step))
    ]

pub returns : goal.returns
returns c =
    reading_end c.args.trail.now.entries c.args.marks.now c.args.places.now c.args.count c.loop-place.next c.loop-place.place-index c.loop-place.lits.items c.requires.count c.requires.listed (omega (arith, c.loop-place-test.false)) c.loop-place.invariant
