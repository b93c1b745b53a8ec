use Rattle.std.proofs.Common.{◌≡◌, arith}
use Rattle.ec_sat.proofs.Listed.{mark_none, mark_high, mark_low}
use Rattle.ec_sat.proofs.learn.mark_variable.Goals as goal

pub returns-in_default-clause-listed : goal.returns-in_default-clause-listed
returns-in_default-clause-listed c =
    mark_none c.args.trail.now.variables c.args.trail.now.entries c.args.marks.now c.args.variable c.args.level c.args.lower.now.items c.len-trail.ensures.trail c.in_default.ensures.none c.requires.listed

pub returns-then-entry-level-clause-listed : goal.returns-then-entry-level-clause-listed
returns-then-entry-level-clause-listed c =
    let is : c.entry.result.lit.variable ≡ c.args.variable = rw c.entry.ensures at c.in-Some.ensures.there in
    mark_high c.args.trail.now.variables c.args.trail.now.entries c.args.marks.now c.args.variable c.args.level c.in-Some.place c.args.lower.now.items c.entry.result c.len-trail.ensures.trail c.in-Some.ensures.within c.entry.ensures is (omega arith) c.requires.listed

pub returns-clause-listed : goal.returns-clause-listed
returns-clause-listed c =
    let is : c.entry.result.lit.variable ≡ c.args.variable = rw c.entry.ensures at c.in-Some.ensures.there in
    mark_low c.args.trail.now.variables c.args.trail.now.entries c.args.marks.now c.args.variable c.args.level c.in-Some.place c.args.lower.now.items c.push.new.self.items c.entry.result c.len-trail.ensures.trail c.in-Some.ensures.within c.entry.ensures is c.in_ok-push.ensures.items c.requires.listed
