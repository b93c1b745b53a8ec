use Rattle.std.proofs.Common.{◌≡◌, ◌+◌, get_or, arith, ap, subst, List, ◌∙◌}
use Rattle.std.proofs.lemmas.Option.{get_or_from_slice_get}
use Rattle.std.proofs.lemmas.Bool.{OnTrue_at}
use Rattle.ec_clause.specs.Literal.{Literal}
use Rattle.ec_trail.specs.declared.trail.Entry.{Entry}
use Rattle.ec_sat.specs.Stops.{AllMarked}
use Rattle.ec_sat.proofs.Listed.{stay_unmark}
use Rattle.ec_sat.proofs.Shortening.{asserts_down, asserts_drop}
use Rattle.ec_sat.proofs.learn.drop_implied.Goals as goal

pub get-requires-clause-low : goal.get-requires-clause-low
get-requires-clause-low c =
    let es = c.args.trail.now.entries in
    let e = c.entry-entry.result in
    let j = c.args.below in
    let same : get_or es j e ≡ e = get_or_from_slice_get es j e e c.entry-entry.ensures in
    c.requires.reasons.low j c.in-Some.number e (omega (arith, c.requires.below, c.requires.asserts.in_range)) (ap (λ (x : Entry). x.reason) same ∙ c.in-Some.is)

pub get-requires-clause-high : goal.get-requires-clause-high
get-requires-clause-high c =
    let es = c.args.trail.now.entries in
    let e = c.entry-entry.result in
    let j = c.args.below in
    let same : get_or es j e ≡ e = get_or_from_slice_get es j e e c.entry-entry.ensures in
    c.requires.reasons.high j c.in-Some.number e (omega (arith, c.requires.below, c.requires.asserts.in_range)) (ap (λ (x : Entry). x.reason) same ∙ c.in-Some.is)

pub returns-in_default-clause-asserts : goal.returns-in_default-clause-asserts
returns-in_default-clause-asserts c =
    asserts_down c.args.clauses.now c.args.trail.now.variables c.args.trail.now.entries c.args.marks.now c.args.hints.now.items c.args.place (c.args.below + 1) c.args.below (omega arith) c.requires.asserts

pub returns-in_default-clause-listed : goal.returns-in_default-clause-listed
returns-in_default-clause-listed c = λ level places h. h

pub returns-clause-asserts : goal.returns-clause-asserts
returns-clause-asserts c =
    let all = subst (λ (xs : List Literal). AllMarked c.args.marks.now xs) c.get.ensures.value (OnTrue_at c.if-not-are_marked.false c.are_marked.ensures) in
    asserts_drop c.args.clauses.now c.args.trail.now.variables c.args.trail.now.entries c.args.marks.now c.args.hints.now.items c.push.new.self.items c.args.place c.args.below c.variable-variable.result c.in-Some.number c.entry-entry.result c.len-trail.ensures.trail c.requires.reasons c.requires.marks c.requires.below c.entry-entry.ensures c.variable-variable.ensures.variable c.in-Some.is all c.in_ok-push.ensures.items c.requires.asserts

pub returns-clause-listed : goal.returns-clause-listed
returns-clause-listed c = stay_unmark c.args.trail.now.entries c.args.marks.now c.variable-variable.result
