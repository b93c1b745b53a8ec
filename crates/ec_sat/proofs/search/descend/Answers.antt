use Rattle.std.proofs.Common.{refl, subst, ◌∙◌}
use Rattle.ec_trail.specs.TrailList.{truth_of}
use Rattle.ec_unit.specs.Settling.{Settles}
use Rattle.ec_unit.specs.declared.watch.Settled.{Settled}
use Rattle.ec_sat.proofs.Knowing.{known_settled, known_decide}
use Rattle.ec_sat.proofs.Searches.{searching_adds, searching_decide}
use Rattle.ec_sat.proofs.Running.{model_holds}
use Rattle.ec_sat.proofs.search.descend.Goals as goal

pub returns-in-Conflict-clause-searching : goal.returns-in-Conflict-clause-searching
returns-in-Conflict-clause-searching c = searching_adds c.args.clauses.now c.loop-number.trail c.settle_from-settled.new.trail c.loop-number.invariant.0 c.settle_from-settled.ensures.adds

pub returns-in-Conflict-clause-known : goal.returns-in-Conflict-clause-known
returns-in-Conflict-clause-known c =
    let s = c.settle_from-settled in
    known_settled c.args.clauses.now c.loop-number.trail s.new.trail s.new.self.seen c.loop-number.known c.after.result s.result c.after.ensures.trail c.loop-number.invariant.4.short s.ensures.adds s.ensures.settles s.ensures.seen c.after.ensures.front c.after.ensures.short

pub returns-in-Conflict-clause-cases : goal.returns-in-Conflict-clause-cases
returns-in-Conflict-clause-cases c =
    let s = c.settle_from-settled in
    subst (λ (x : Settled). Settles c.args.clauses.now (truth_of s.new.trail) x) c.in-Conflict.is s.ensures.settles

pub returns-in-None-clause-searching : goal.returns-in-None-clause-searching
returns-in-None-clause-searching c = searching_adds c.args.clauses.now c.loop-number.trail c.settle_from-settled.new.trail c.loop-number.invariant.0 c.settle_from-settled.ensures.adds

pub returns-in-None-clause-known : goal.returns-in-None-clause-known
returns-in-None-clause-known c =
    let s = c.settle_from-settled in
    known_settled c.args.clauses.now c.loop-number.trail s.new.trail s.new.self.seen c.loop-number.known c.after.result s.result c.after.ensures.trail c.loop-number.invariant.4.short s.ensures.adds s.ensures.settles s.ensures.seen c.after.ensures.front c.after.ensures.short

pub returns-in-None-clause-cases : goal.returns-in-None-clause-cases
returns-in-None-clause-cases c =
    let s = c.settle_from-settled in
    let quiet = subst (λ (x : Settled). Settles c.args.clauses.now (truth_of s.new.trail) x) c.in-Quiet.is s.ensures.settles in
    model_holds c.args.clauses.now s.new.trail (searching_adds c.args.clauses.now c.loop-number.trail s.new.trail c.loop-number.invariant.0 s.ensures.adds).variables c.len-clauses.ensures.clauses quiet c.in-None.ensures.picks

pub loop-number-preserved : goal.loop-number-preserved
loop-number-preserved c =
    let s = c.settle_from-settled in
    let quiet = subst (λ (x : Settled). Settles c.args.clauses.now (truth_of s.new.trail) x) c.in-Quiet.is s.ensures.settles in
    let known = known_settled c.args.clauses.now c.loop-number.trail s.new.trail s.new.self.seen c.loop-number.known c.after.result s.result c.after.ensures.trail c.loop-number.invariant.4.short s.ensures.adds s.ensures.settles s.ensures.seen c.after.ensures.front c.after.ensures.short in (
      searching_decide c.args.clauses.now s.new.trail c.decide.new.self _ (searching_adds c.args.clauses.now c.loop-number.trail s.new.trail c.loop-number.invariant.0 s.ensures.adds) c.len-few.ensures.trail quiet c.decide.ensures.variables c.decide.ensures.entries refl refl,
      s.ensures.watched,
      c.next.ensures.variables ∙ c.loop-number.invariant.2,
      c.decide.ensures.variables ∙ s.ensures.adds.variables ∙ c.loop-number.invariant.3,
      known_decide c.args.clauses.now s.new.trail c.decide.new.self s.new.self.seen _ c.after.result c.decide.ensures.entries known,
    )
