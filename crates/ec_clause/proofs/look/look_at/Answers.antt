use Rattle.std.proofs.Common.{◌≡◌, ◌∙◌, sym, None, drop, arith}
use Rattle.std.proofs.lemmas.List.{drop_all}
use Rattle.ec_clause.proofs.Looking.{seen_end, seen_unit, seen_false, seen_two}
use Rattle.ec_clause.specs.Truth.{literal_value}
use Rattle.ec_clause.proofs.look.look_at.Goals as goal

pub returns-in-Some-clause-left : goal.returns-in-Some-clause-left
returns-in-Some-clause-left c =
    seen_end c.args.truth.now c.args.clause.now (drop c.loop-lit.lit-index c.args.clause.now) _ c.in-Some.lit c.loop-lit.invariant (drop_all c.loop-lit.lit-index c.args.clause.now (omega arith)) c.in-Some.is

pub returns-in-Some-clause-means : goal.returns-in-Some-clause-means
returns-in-Some-clause-means c =
    seen_unit c.args.truth.now c.args.clause.now (drop c.loop-lit.lit-index c.args.clause.now) _ c.in-Some.lit c.loop-lit.invariant (drop_all c.loop-lit.lit-index c.args.clause.now (omega arith)) c.in-Some.is

pub returns-in-None-left-clause-means : goal.returns-in-None-left-clause-means
returns-in-None-left-clause-means c =
    seen_false c.args.truth.now c.args.clause.now (drop c.loop-lit.lit-index c.args.clause.now) _ c.loop-lit.invariant (drop_all c.loop-lit.lit-index c.args.clause.now (omega arith)) c.in-None-left.is

pub returns-then-is_some-clause-means : goal.returns-then-is_some-clause-means
returns-then-is_some-clause-means c =
    let none : literal_value c.args.truth.now c.lit-item.result ≡ None = sym c.value.ensures ∙ c.in-None.is in
    seen_two c.args.truth.now c.args.clause.now c.loop-lit.lit-index c.lit-item.result _ c.loop-lit.invariant (omega arith) c.lit-item.is (sym c.is_some.ensures ∙ c.if-is_some.true) none
