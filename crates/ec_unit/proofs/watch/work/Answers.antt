use Rattle.std.proofs.Common.{◌<◌, length, refl, sym, ap, subst, ◌∙◌, arith}
use Rattle.ec_unit.specs.Working.{ShortHold}
use Rattle.ec_unit.proofs.Looked.{short_hold_more}
use Rattle.ec_unit.proofs.Adding.{adds_more}
use Rattle.ec_unit.proofs.Quiets.{all_quiet, all_safe}
use Rattle.ec_unit.proofs.Tables.{working_next, at_range, at_seen}
use Rattle.ec_unit.proofs.Visits.{working_more}
use Rattle.ec_unit.proofs.watch.work.Goals as goal

pub examine_short-requires-clause-short : goal.examine_short-requires-clause-short
examine_short-requires-clause-short c = rw c.deref.ensures.value c.requires.working.short.in_range

pub returns-in-Some-clause-working : goal.returns-in-Some-clause-working
returns-in-Some-clause-working c =
    let t = c.args.table.now in
    let e = c.examine_short.ensures in
    working_more c.args.clauses.now t (record t { seen = c.examine_short.new.seen }) c.args.trail.now c.examine_short.new.trail c.requires.working refl e.room e.grows e.follows e.adds.variables

pub take_up-requires-clause-working : goal.take_up-requires-clause-working
take_up-requires-clause-working c =
    let t = c.args.table.now in
    let e = c.examine_short.ensures in
    working_more c.args.clauses.now t (record t { seen = c.examine_short.new.seen }) c.args.trail.now c.examine_short.new.trail c.requires.working refl e.room e.grows e.follows e.adds.variables

pub returns-in-Some-take_up-clause-adds : goal.returns-in-Some-take_up-clause-adds
returns-in-Some-take_up-clause-adds c = adds_more c.args.clauses.now c.args.trail.now c.examine_short.new.trail c.take_up.new.trail c.examine_short.ensures.adds c.take_up.ensures.adds

pub loop-table-init : goal.loop-table-init
loop-table-init c =
    let clauses = c.args.clauses.now in
    let hold : ShortHold clauses c.take_up.new.table.seen.items c.deref.result.now = short_hold_more clauses c.examine_short.new.seen.items c.take_up.new.table.seen.items c.deref.result.now c.take_up.ensures.grows c.in_default.ensures.none in
    (c.take_up.ensures.working, c.take_up.ensures.chained, c.in_default-take_up.ensures.none, adds_more clauses c.args.trail.now c.examine_short.new.trail c.take_up.new.trail c.examine_short.ensures.adds c.take_up.ensures.adds, subst (ShortHold clauses c.take_up.new.table.seen.items) (c.deref.ensures.value ∙ sym c.take_up.ensures.short) hold)

pub visit-requires-clause-range : goal.visit-requires-clause-range
visit-requires-clause-range c =
    let range = at_range c.loop-table.trail c.loop-table.table.worked c.at.result c.len.ensures.trail (omega (arith, c.loop-table-test.true, c.len.ensures.value)) c.at.ensures in
    omega (arith, range, c.loop-table.invariant.0.variables, ap (λ l. l.variable) c.opposite-lit.ensures)

pub visit-requires-clause-lit : goal.visit-requires-clause-lit
visit-requires-clause-lit c = at_seen c.loop-table.trail c.loop-table.table.seen.items c.loop-table.table.worked c.at.result c.opposite-lit.result c.loop-table.invariant.0.follows (omega (arith, c.loop-table-test.true, c.len.ensures.value)) c.at.ensures c.opposite-lit.ensures

pub returns-in-Some-visit-clause-adds : goal.returns-in-Some-visit-clause-adds
returns-in-Some-visit-clause-adds c = adds_more c.args.clauses.now c.args.trail.now c.loop-table.trail c.visit.new.trail c.loop-table.invariant.3 c.visit.ensures.adds

pub loop-table-preserved : goal.loop-table-preserved
loop-table-preserved c =
    let clauses = c.args.clauses.now in
    let i = c.loop-table.invariant in
    let v = c.visit.ensures in
    let more : c.visit.new.table.worked < length c.visit.new.table.seen.items = omega (arith, c.loop-table-test.true, c.len.ensures.value, i.0.follows.size, v.grows.longer, v.worked) in
    let hold : ShortHold clauses c.visit.new.table.seen.items c.loop-table.table.short.items = short_hold_more clauses c.loop-table.table.seen.items c.visit.new.table.seen.items c.loop-table.table.short.items v.grows i.4 in
    (working_next clauses c.visit.new.table c.visit.new.trail v.working more c.in_default-visit.ensures.none, v.chained, v.all ∙ i.2, adds_more clauses c.args.trail.now c.loop-table.trail c.visit.new.trail i.3 v.adds, subst (ShortHold clauses c.visit.new.table.seen.items) (sym v.short) hold)

pub returns-clause-quiet : goal.returns-clause-quiet
returns-clause-quiet c =
    let i = c.loop-table.invariant in
    all_quiet c.args.clauses.now c.loop-table.table c.loop-table.trail c.len.ensures.trail i.0 i.2 (omega (arith, c.loop-table-test.false, c.len.ensures.value, i.0.follows.size)) i.4

pub returns-clause-safe : goal.returns-clause-safe
returns-clause-safe c =
    let i = c.loop-table.invariant in
    all_safe c.args.clauses.now c.loop-table.table c.loop-table.trail c.len.ensures.trail i.0 i.2 (omega (arith, c.loop-table-test.false, c.len.ensures.value, i.0.follows.size))
