use Rattle.std.proofs.Common.{refl, ◌∙◌}
use Rattle.ec_unit.proofs.Adding.{adds_more}
use Rattle.ec_unit.proofs.Growing.{grows_more}
use Rattle.ec_unit.proofs.Visits.{working_more}
use Rattle.ec_unit.proofs.table.take_up.Goals as goal

pub returns-in-Some-clause-working : goal.returns-in-Some-clause-working
returns-in-Some-clause-working c =
    let t = c.loop-table.table in
    working_more c.args.clauses.now t (record t { seen = c.examine.new.seen }) c.loop-table.trail c.examine.new.trail c.loop-table.invariant.0 refl c.examine.ensures.room c.examine.ensures.grows c.examine.ensures.follows c.examine.ensures.adds.variables

pub returns-in-Some-clause-adds : goal.returns-in-Some-clause-adds
returns-in-Some-clause-adds c = adds_more c.args.clauses.now c.args.trail.now c.loop-table.trail c.examine.new.trail c.loop-table.invariant.4 c.examine.ensures.adds

pub enchain-requires-clause-working : goal.enchain-requires-clause-working
enchain-requires-clause-working c =
    let t = c.loop-table.table in
    working_more c.args.clauses.now t (record t { seen = c.examine.new.seen }) c.loop-table.trail c.examine.new.trail c.loop-table.invariant.0 refl c.examine.ensures.room c.examine.ensures.grows c.examine.ensures.follows c.examine.ensures.adds.variables

pub loop-table-preserved : goal.loop-table-preserved
loop-table-preserved c =
    let i = c.loop-table.invariant in
    (c.enchain.ensures.working, c.enchain.ensures.chained, c.enchain.ensures.short ∙ i.2, grows_more c.args.table.now.seen.items c.loop-table.table.seen.items c.enchain.new.table.seen.items i.3 (grows_more c.loop-table.table.seen.items c.examine.new.seen.items c.enchain.new.table.seen.items c.examine.ensures.grows c.enchain.ensures.grows), adds_more c.args.clauses.now c.args.trail.now c.loop-table.trail c.examine.new.trail i.4 c.examine.ensures.adds)
