use Rattle.std.proofs.Common.{◌-◌, [], refl, ap, ◌∙◌, subst, arith}
use Rattle.ec_clause.specs.Literal.{Literal}
use Rattle.ec_clause.specs.Truth.{literal_value}
use Rattle.ec_trail.specs.TrailList.{truth_of}
use Rattle.ec_trail.proofs.BackTo.{some_entry}
use Rattle.ec_unit.specs.Leaning.{Leans}
use Rattle.ec_unit.proofs.Adding.{adds_none}
use Rattle.ec_unit.proofs.Growing.{grows_none, leans_push}
use Rattle.ec_unit.proofs.Looked.{no_some, all_false, one_open, adds_one}
use Rattle.ec_unit.proofs.visit.inspect.Goals as goal

pub true_at-requires : goal.true_at-requires
true_at-requires c =
    let at = c.requires.other in
    let clause = c.len-known.ensures.clauses (c.args.number - 1) [] (omega (arith, c.requires.low, c.requires.high)) in
    omega (arith, (clause.in_range at.0 c.args.other at.1).1, ap (λ (l : Literal). l.variable) at.2, c.requires.list)

pub returns-in-Some-clause-step : goal.returns-in-Some-clause-step
returns-in-Some-clause-step c =
    let at = c.in-Some.ensures.some in
    let lit = c.requires.follows.same c.in-Some.base some_entry at.within ∙ at.there some_entry in
    subst (λ (l : Literal). Leans c.rest_on.new.seen.items l c.args.place) lit c.rest_on.ensures.leans

pub returns-then-is_some-clause-step : goal.returns-then-is_some-clause-step
returns-then-is_some-clause-step c =
    all_false c.args.clauses.now (truth_of c.args.trail.now) c.args.number c.args.other c.requires.low c.requires.high (rw (← c.get-clause.ensures.value) c.in_default-replacement.ensures.none) (cc (c.is_some.ensures, c.if-is_some.true, c.value.ensures)) c.in_default.ensures.none

pub returns-clause-adds : goal.returns-clause-adds
returns-clause-adds c =
    let clauses = c.args.clauses.now in
    let old = c.args.trail.now in
    let none = c.in_default.ensures.none in
    adds_one clauses old c.imply.new.trail c.args.number c.args.other _ c.requires.low c.requires.high (one_open clauses (truth_of old) c.args.number c.args.other (rw (← c.get-clause.ensures.value) c.get-clause.ensures.clause) c.requires.other (rw (← c.get-clause.ensures.value) c.in_default-replacement.ensures.none) (no_some (literal_value (truth_of old) c.args.other) (cc (c.is_some.ensures, c.if-is_some.false, c.value.ensures)))) refl c.imply.ensures.variables c.imply.ensures.entries

pub returns-in-Some-clause-adds : goal.returns-in-Some-clause-adds
returns-in-Some-clause-adds c = adds_none c.args.clauses.now c.args.trail.now

pub returns-in-Some-replacement-clause-adds : goal.returns-in-Some-replacement-clause-adds
returns-in-Some-replacement-clause-adds c = adds_none c.args.clauses.now c.args.trail.now

pub returns-then-is_some-clause-adds : goal.returns-then-is_some-clause-adds
returns-then-is_some-clause-adds c = adds_none c.args.clauses.now c.args.trail.now

pub returns-in-Some-replacement-clause-grows : goal.returns-in-Some-replacement-clause-grows
returns-in-Some-replacement-clause-grows c = grows_none c.args.seen.now.items

pub returns-then-is_some-clause-grows : goal.returns-then-is_some-clause-grows
returns-then-is_some-clause-grows c = grows_none c.args.seen.now.items

pub returns-clause-step : goal.returns-clause-step
returns-clause-step c = rw c.imply.ensures.seen (leans_push c.args.seen.now.items (record { lit = c.args.other; lean = c.args.place }))
