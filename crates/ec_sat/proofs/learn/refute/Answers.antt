use Rattle.std.proofs.Common.{◌≡◌, ◌-◌, get_or, arith, ap, ◌∙◌}
use Rattle.std.proofs.lemmas.Option.{get_or_from_slice_get}
use Rattle.ec_trail.specs.declared.trail.Entry.{Entry}
use Rattle.ec_sat.specs.Reasons.{mark_all}
use Rattle.ec_clause.specs.ClauseList.{IsClause, clause_at}
use Rattle.ec_sat.proofs.Refutes.{no_decision, refuting_skip, refuting_more, refuted}
use Rattle.ec_sat.proofs.learn.refute.Goals as goal

pub unreachable-requires : goal.unreachable-requires
unreachable-requires c =
    no_decision c.args.clauses.now c.args.trail.now.variables c.args.trail.now.entries c.loop-count.marks c.loop-count.hints.items c.loop-count.count c.entry-entry.result c.requires.reasons c.requires.low c.loop-count.invariant (omega arith) c.entry-entry.ensures c.in-None.is

pub get-requires-clause-low : goal.get-requires-clause-low
get-requires-clause-low c =
    let es = c.args.trail.now.entries in
    let e = c.entry-entry.result in
    let j = c.loop-count.count - 1 in
    let same : get_or es j e ≡ e = get_or_from_slice_get es j e e c.entry-entry.ensures in
    c.requires.reasons.low j c.in-Some.reason e (omega (arith, c.loop-count.invariant.low)) (ap (λ (x : Entry). x.reason) same ∙ c.in-Some.is)

pub get-requires-clause-high : goal.get-requires-clause-high
get-requires-clause-high c =
    let es = c.args.trail.now.entries in
    let e = c.entry-entry.result in
    let j = c.loop-count.count - 1 in
    let same : get_or es j e ≡ e = get_or_from_slice_get es j e e c.entry-entry.ensures in
    c.requires.reasons.high j c.in-Some.reason e (omega (arith, c.loop-count.invariant.low)) (ap (λ (x : Entry). x.reason) same ∙ c.in-Some.is)

pub loop-count-preserved : goal.loop-count-preserved
loop-count-preserved c =
    refuting_skip c.args.clauses.now c.args.trail.now.variables c.args.trail.now.entries c.loop-count.marks c.loop-count.hints.items c.loop-count.count c.variable-variable.result c.entry-entry.result c.loop-count.invariant (omega arith) c.entry-entry.ensures c.variable-variable.ensures.variable c.if-marks-variable.false

pub loop-count-preserved-in-Continue-1 : goal.loop-count-preserved-in-Continue-1
loop-count-preserved-in-Continue-1 c =
    let n = c.args.trail.now.variables in
    let clauses = c.args.clauses.now in
    let clause : IsClause n (clause_at clauses c.in-Some.reason) = rw (← c.requires.variables, ← c.get.ensures.value) c.get.ensures.clause in
    let marked = c.mark_each.ensures ∙ ap (mark_all c.loop-count.marks) c.get.ensures.value in
    refuting_more clauses n c.args.trail.now.entries c.loop-count.marks c.mark_each.new.marks c.loop-count.hints.items c.push.new.self.items c.loop-count.count c.variable-variable.result c.in-Some.reason c.entry-entry.result c.requires.reasons clause c.loop-count.invariant (omega arith) c.entry-entry.ensures c.variable-variable.ensures.variable c.in-Some.is marked c.in_ok-push-in-Some.ensures.items

pub returns-clause-step : goal.returns-clause-step
returns-clause-step c =
    refuted c.args.clauses.now c.args.trail.now c.loop-count.marks c.loop-count.hints.items c.reverse.new.self.items c.loop-count.count _ c.requires.variables c.loop-count.invariant (omega arith) c.new.ensures.items c.reverse.ensures.items
