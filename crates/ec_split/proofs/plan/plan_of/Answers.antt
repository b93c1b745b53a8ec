use Rattle.std.proofs.Common.{◌∙◌, ◌≤◌, ◌+◌, length, arith}
use Rattle.std.proofs.lemmas.List.{length-map}
use Rattle.ec_split.specs.Plan.{groups_in, made_of}
use Rattle.ec_split.proofs.StatementLemmas.{taken, after_length}
use Rattle.ec_split.proofs.plan.plan_of.Goals as goal

pub loop-statement-preserved : goal.loop-statement-preserved
loop-statement-preserved c =
    let names = c.args.names.now.keys in
    let old = groups_in c.loop-statement.plan in
    let new = groups_in c.take.new.self in
    let few : length new ≤ length old + 1 = after_length names old new c.statement-item.result c.in_ok-take.ensures.0 in
    record {
      tabled = c.in_ok-take.ensures.1;
      rest = taken names old new c.args.wanted.now c.loop-statement.statement-index c.statement-item.result c.loop-statement-test.true c.statement-item.is c.in_ok-take.ensures.0 ∙ c.loop-statement.invariant.rest;
      few = omega (arith, few, length-map c.take.new.self.made.items made_of, length-map c.loop-statement.plan.made.items made_of, c.loop-statement.invariant.few);
    }
