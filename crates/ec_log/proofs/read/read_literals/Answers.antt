use Rattle.std.proofs.Common.{sym}
use Rattle.ec_log.specs.Line.{IsLit}
use Rattle.ec_log.proofs.Tails.{literals_on, literals_cut, can_literals, not_equal, is_equal, literals_more, each_more, literals_ended}
use Rattle.ec_log.proofs.read.read_literals.Goals as goal

pub returns-then-eq-clause-read : goal.returns-then-eq-clause-read
returns-then-eq-clause-read c = literals_ended _ _ c.in-Some.word.now c.in-Some.after.now c.loop-word.lits.items c.loop-word.invariant.so_far c.in-Some.ensures.whole (is_equal _ _ _ c.as_slice.ensures c.eq.ensures c.if-eq.true)

pub returns-in-None-clause-form : goal.returns-in-None-clause-form
returns-in-None-clause-form c = λ form more rest all is.
    let can = c.loop-word.invariant.more (can_literals _ more rest all is) in
    let on = literals_on _ c.in-Some.word.now c.in-Some.after.now (sym c.in-Some.ensures.exact) (not_equal _ _ _ c.as_slice.ensures c.eq.ensures c.if-eq.false) can in
    c.in-None.ensures on.0 on.1 on.2

pub loop-word-preserved : goal.loop-word-preserved
loop-word-preserved c = record {
  so_far = literals_more _ _ c.in-Some.word.now _ c.loop-word.lits.items _ c.in-Some-read_literal.lit c.loop-word.invariant.so_far c.in-Some.ensures.whole c.in-Some-read_literal.ensures.1 c.in_ok-push-in-Some-read_literal.ensures.items;
  each = λ all. each_more IsLit c.loop-word.lits.items _ c.in-Some-read_literal.lit c.in_ok-push-in-Some-read_literal.ensures.items (c.loop-word.invariant.each all) c.in-Some-read_literal.ensures.0;
  more = λ can.
      let on = literals_on _ c.in-Some.word.now c.in-Some.after.now (sym c.in-Some.ensures.exact) (not_equal _ _ _ c.as_slice.ensures c.eq.ensures c.if-eq.false) (c.loop-word.invariant.more can) in
      on.3;
}

pub returns-clause-form : goal.returns-clause-form
returns-clause-form c = λ form more rest all is. literals_cut _ (sym c.in_default.ensures.exact) (c.loop-word.invariant.more (can_literals _ more rest all is))
