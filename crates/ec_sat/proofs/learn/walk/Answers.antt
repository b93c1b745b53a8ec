use Rattle.std.proofs.Common.{◌≡◌, ◌<◌, ◌-◌, length, get_or, arith, ap, sym, subst, ◌∙◌}
use Rattle.std.proofs.lemmas.Option.{get_or_from_slice_get}
use Rattle.ec_trail.specs.declared.trail.Entry.{Entry}
use Rattle.ec_trail.specs.TrailList.{top_level}
use Rattle.ec_unit.specs.Settling.{IsNumber}
use Rattle.ec_sat.specs.Reasons.{mark_all}
use Rattle.ec_clause.specs.ClauseList.{IsClause, clause_at}
use Rattle.ec_sat.specs.Stops.{AreListed}
use Rattle.ec_sat.proofs.Listed.{stay_unmark}
use Rattle.ec_sat.proofs.Down.{down_skip, down_more}
use Rattle.ec_sat.proofs.learn.walk.Goals as goal

pub get-requires-clause-low : goal.get-requires-clause-low
get-requires-clause-low c =
    let es = c.args.trail.now.entries in
    let e = c.entry-entry.result in
    let j = c.loop-count.count - 1 in
    let same : get_or es j e ≡ e = get_or_from_slice_get es j e e c.entry-entry.ensures in
    c.requires.reasons.low j c.in-Some.reason e (omega (arith, c.loop-count.invariant.0.low)) (ap (λ (x : Entry). x.reason) same ∙ c.in-Some.is)

pub get-requires-clause-high : goal.get-requires-clause-high
get-requires-clause-high c =
    let es = c.args.trail.now.entries in
    let e = c.entry-entry.result in
    let j = c.loop-count.count - 1 in
    let same : get_or es j e ≡ e = get_or_from_slice_get es j e e c.entry-entry.ensures in
    c.requires.reasons.high j c.in-Some.reason e (omega (arith, c.loop-count.invariant.0.low)) (ap (λ (x : Entry). x.reason) same ∙ c.in-Some.is)

pub loop-count-preserved : goal.loop-count-preserved
loop-count-preserved c =
    let n = c.args.trail.now.variables in (
      down_skip c.args.clauses.now n c.args.trail.now.entries c.loop-count.marks c.loop-count.hints.items c.loop-count.count c.variable-variable.result c.entry-entry.result c.loop-count.invariant.0 (omega arith) c.entry-entry.ensures c.variable-variable.ensures.variable c.if-marks-variable.false,
      c.loop-count.invariant.1,
    )

pub loop-count-preserved-in-Continue-branch-2 : goal.loop-count-preserved-in-Continue-branch-2
loop-count-preserved-in-Continue-branch-2 c =
    let n = c.args.trail.now.variables in
    let clauses = c.args.clauses.now in
    let clause : IsClause n (clause_at clauses c.in-Some.reason) = rw (← c.requires.variables, ← c.get.ensures.value) c.get.ensures.clause in
    let marked = c.in_ok-more-in-Some.ensures.marks ∙ ap (mark_all c.loop-count.marks) c.get.ensures.value in
    let es = c.args.trail.now.entries in
    let e = c.entry-entry.result in
    let j = c.loop-count.count - 1 in
    let same : get_or es j e ≡ e = get_or_from_slice_get es j e e c.entry-entry.ensures in
    let is = ap (λ (x : Entry). x.reason) same ∙ c.in-Some.is in
    let lj : j < length es = omega (arith, c.loop-count.invariant.0.low) in
    let known : IsNumber clauses c.in-Some.reason = record { low = c.requires.reasons.low j c.in-Some.reason e lj is; high = c.requires.reasons.high j c.in-Some.reason e lj is } in
    let stays = stay_unmark es c.mark.new.marks c.variable-variable.result (top_level es) c.mark.new.lower.items (subst (λ k. AreListed es c.mark.new.marks k c.mark.new.lower.items) c.level-level.ensures.value c.in_ok-more-in-Some.ensures.listed) in (
      down_more clauses n c.args.trail.now.entries c.loop-count.marks c.mark.new.marks c.loop-count.hints.items c.push.new.self.items c.loop-count.count c.variable-variable.result c.in-Some.reason c.entry-entry.result c.requires.reasons clause c.loop-count.invariant.0 (omega arith) c.entry-entry.ensures c.variable-variable.ensures.variable c.in-Some.is marked c.in_ok-push-in-Some.ensures.items (c.requires.quiet (top_level es - 1) c.in-Some.reason (omega (arith, c.requires.high)) known),
      stays,
    )

pub mark-requires-clause-listed : goal.mark-requires-clause-listed
mark-requires-clause-listed c =
    subst (λ k. AreListed c.args.trail.now.entries c.loop-count.marks k c.loop-count.lower.items) (sym c.level-level.ensures.value) c.loop-count.invariant.1
