use Rattle.std.proofs.Common.{◌≡◌, ◌+◌, suc, take, Bool, List, length, subst, sym, arith}
use Rattle.std.specs.List.{AllByRecursion}
use Rattle.ec_logic.specs.Listing.{IsTruth}
use Rattle.ec_grounding.specs.WellFormed.{visible_count}
use Rattle.ec_theory.specs.Theories.{theory_of}
use Rattle.ec_audit.specs.Ground.{HasRoom}
use Rattle.ec_audit.proofs.Passing.{each_at, pass_more, first_failing}
use Rattle.ec_audit.proofs.first.first_untrue.Goals as goal

pub name_part-requires-clause-fails : goal.name_part-requires-clause-fails
name_part-requires-clause-fails c = λ is.
    let theory = theory_of c.args.theory.now in
    let whole = each_at (λ (t : List Bool). length t ≡ visible_count theory) c.args.truths.now c.loop-place.place c.index-truths-place.result c.loop-place-test.true c.index-truths-place.is c.requires.whole in
    let yes = (c.passes.ensures.exact theory c.requires.valid c.requires.ground whole).1 is in
    let other = c.if-not-passes.true in
    cc

pub returns-then-not-passes : goal.returns-then-not-passes
returns-then-not-passes c =
    first_failing (theory_of c.args.theory.now) c.args.truths.now c.loop-place.place c.index-truths-place.result c.in_ok-name_part.field-0 c.loop-place-test.true c.index-truths-place.is
    c.loop-place.invariant.passed c.in_ok-name_part.ensures

pub loop-place-preserved : goal.loop-place-preserved
loop-place-preserved c =
    let theory = theory_of c.args.theory.now in
    let truths = c.args.truths.now in
    let place = c.loop-place.place in
    let truth = c.index-truths-place.result in
    let whole = each_at (λ (t : List Bool). length t ≡ visible_count theory) truths place truth c.loop-place-test.true c.index-truths-place.is c.requires.whole in
    let is = (c.passes.ensures.exact theory c.requires.valid c.requires.ground whole).0 c.if-not-passes.false in
    let next : suc place ≡ place + 1 = omega arith in
    record {
      room = subst (λ size. HasRoom size c.args.grounded.now) (sym c.passes.ensures.room) c.loop-place.invariant.room;
      passed = subst (λ n. AllByRecursion (IsTruth theory) (take n truths)) next (pass_more (IsTruth theory) truths place truth c.loop-place-test.true c.index-truths-place.is is c.loop-place.invariant.passed);
    }
