use Rattle.std.proofs.Common.{sym}
use Rattle.ec_log.specs.Line.{IsHint}
use Rattle.ec_log.proofs.Tails.{hints_on, hints_end, can_hints, is_other, hints_more, each_more}
use Rattle.ec_log.proofs.read.read_hints.Goals as goal

pub returns-in-None-clause-form : goal.returns-in-None-clause-form
returns-in-None-clause-form c = λ form hints all is.
    let on = hints_on _ c.in-Some.word.now c.in-Some.after.now (sym c.in-Some.ensures.exact) (c.loop-word.invariant.more (can_hints _ hints all is)) in
    c.in-None.ensures on.0 on.1 on.2

pub loop-word-preserved : goal.loop-word-preserved
loop-word-preserved c = record {
  so_far = hints_more _ _ c.in-Some.word.now _ c.loop-word.hints.items _ c.in-Some-read_hint.hint c.loop-word.invariant.so_far c.in-Some.ensures.whole c.in-Some-read_hint.ensures.1 c.in_ok-push-in-Some-read_hint.ensures.items;
  each = each_more IsHint c.loop-word.hints.items _ c.in-Some-read_hint.hint c.in_ok-push-in-Some-read_hint.ensures.items c.loop-word.invariant.each c.in-Some-read_hint.ensures.0;
  more = λ can.
      let on = hints_on _ c.in-Some.word.now c.in-Some.after.now (sym c.in-Some.ensures.exact) (c.loop-word.invariant.more can) in
      on.3;
}

pub returns-then-ne-clause-form : goal.returns-then-ne-clause-form
returns-then-ne-clause-form c = λ form hints all is.
    is_other _ _ _ c.as_slice.ensures c.ne.ensures c.if-ne.true (hints_end _ (sym c.in_default.ensures.exact) (c.loop-word.invariant.more (can_hints _ hints all is)))
