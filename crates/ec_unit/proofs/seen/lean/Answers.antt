use Rattle.std.proofs.Common.{arith, subst}
use Rattle.ec_clause.specs.Literal.{Literal}
use Rattle.ec_unit.specs.Leaning.{IsTrueAt}
use Rattle.ec_unit.proofs.Growing.{held_none, held_back, held_on, follows_grows}
use Rattle.ec_unit.proofs.seen.lean.Goals as goal

pub returns-in_default-clause-held : goal.returns-in_default-clause-held
returns-in_default-clause-held c = λ within.
    held_none c.args.trail.now.variables c.args.trail.now.entries c.args.seen.now.items c.args.worked c.args.lit c.args.other c.len-trail.ensures.trail c.requires.follows within (λ h. c.in_default.ensures.none (cc (h, c.opposite.ensures)))

pub returns-in_default-true_at-clause-held : goal.returns-in_default-true_at-clause-held
returns-in_default-true_at-clause-held c = λ within.
    held_back c.args.trail.now.variables c.args.trail.now.entries c.args.seen.now.items c.args.worked c.min.result c.in-Some.place c.args.lit c.args.other c.len-trail.ensures.trail c.requires.follows within (omega (arith, c.min.ensures)) (omega (arith, c.min.ensures)) (subst (λ (l : Literal). IsTrueAt c.args.trail.now.entries l c.in-Some.place) c.opposite.ensures c.in-Some.ensures.some)

pub returns-clause-held : goal.returns-clause-held
returns-clause-held c = λ within.
    held_on c.args.trail.now.variables c.args.trail.now.entries c.args.seen.now.items c.rest_on.new.seen.items c.args.worked c.in-Some.place c.in-Some-true_at.base c.args.lit c.args.other c.len-trail.ensures.trail c.requires.follows (follows_grows c.args.seen.now.items c.rest_on.new.seen.items c.args.trail.now.entries c.rest_on.ensures.grows c.rest_on.ensures.size c.requires.follows) within (subst (λ (l : Literal). IsTrueAt c.args.trail.now.entries l c.in-Some.place) c.opposite.ensures c.in-Some.ensures.some) c.in-Some-true_at.ensures.some c.rest_on.ensures.leans
