use Rattle.std.proofs.Common.{◌∙◌}
use Rattle.std.proofs.lemmas.Bool.{OnTrue_at}
use Rattle.ec_unit.proofs.Adding.{adds_more}
use Rattle.ec_unit.proofs.Growing.{grows_more}
use Rattle.ec_unit.proofs.Looked.{short_more}
use Rattle.ec_unit.proofs.Fronts.{short_known}
use Rattle.ec_unit.proofs.table.examine_short.Goals as goal

pub returns-in-Some-clause-adds : goal.returns-in-Some-clause-adds
returns-in-Some-clause-adds c = adds_more c.args.clauses.now c.args.trail.now c.loop-number.trail c.examine.new.trail c.loop-number.invariant.0 c.examine.ensures.adds

pub loop-number-preserved : goal.loop-number-preserved
loop-number-preserved c =
    let i = c.loop-number.invariant in
    (adds_more c.args.clauses.now c.args.trail.now c.loop-number.trail c.examine.new.trail i.0 c.examine.ensures.adds, c.examine.ensures.room ∙ i.1, c.examine.ensures.follows, grows_more c.args.seen.now.items c.loop-number.seen.items c.examine.new.seen.items i.3 c.examine.ensures.grows, short_more c.args.clauses.now c.loop-number.seen.items c.examine.new.seen.items c.args.short.now c.loop-number.number-index c.loop-number-test.true c.examine.ensures.grows c.in_default.ensures.none i.4)

pub returns-then-held-clause-none : goal.returns-then-held-clause-none
returns-then-held-clause-none c = short_known c.args.clauses.now c.args.seen.now.items c.args.trail.now.entries c.args.short.now c.requires.follows c.requires.short (OnTrue_at c.if-held.true c.requires.held)
