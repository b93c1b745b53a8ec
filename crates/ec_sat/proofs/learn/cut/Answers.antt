use Rattle.std.proofs.Common.{rules, ℕ, List, sym, subst, ◌+◌, ◌<◌, ◌^◌, arith}
use Rattle.std.proofs.lemmas.List.Sorted.{IsNonDecreasingBy-from_sort}
use Rattle.std.specs.List.Sorted.{IsNonDecreasingBy}
use Rattle.ec_sat.specs.Stops.{AreListedUpTo}
use Rattle.ec_sat.proofs.Listed.{listed_all}
use Rattle.ec_sat.proofs.Learns.{learns_step, learns_none}
use Rattle.ec_sat.proofs.learn.cut.Goals as goal

pub overflow_add-place : goal.overflow_add-place
overflow_add-place c =
    let h : c.in_ok-place.place + 1 < 2 ^ 32 = omega (arith, c.in_ok-place.ensures.stops.in_range, c.level-few.ensures.few, c.level-few.ensures.small) in search rules

pub returns-clause-step : goal.returns-clause-step
returns-clause-step c =
    learns_step c.args.clauses.now c.args.trail.now c.shorten.new.marks c.shorten.new.hints.items c.reverse.new.self.items c.in_ok-place.place c.in_ok-lits.lits.items c.requires.variables c.level-few.ensures.trail c.in_ok-shorten.ensures.asserts c.in_ok-lits.ensures c.reverse.ensures.items

pub returns-clause-none : goal.returns-clause-none
returns-clause-none c =
    learns_none c.args.clauses.now c.args.trail.now c.shorten.new.marks c.shorten.new.hints.items c.in_ok-place.place c.in_ok-lits.lits.items c.requires.variables c.level-few.ensures.trail c.requires.quiet c.len-known.ensures.clauses c.in_ok-shorten.ensures.asserts c.requires.high c.in_ok-lits.ensures

pub left-requires-clause-rising : goal.left-requires-clause-rising
left-requires-clause-rising c =
    subst (λ (xs : List ℕ). IsNonDecreasingBy (λ n. n) xs) (sym c.deref-2.ensures.value) (IsNonDecreasingBy-from_sort (λ n. n) c.sort_unstable.new.self.items c.sort_unstable.ensures.sorted)

pub left-requires-clause-listed : goal.left-requires-clause-listed
left-requires-clause-listed c =
    let es = c.args.trail.now.entries in
    let place = c.in_ok-place.place in
    subst (λ (xs : List ℕ). AreListedUpTo es c.shorten.new.marks (place + 1) xs) (sym c.deref-2.ensures.value) (listed_all c.args.clauses.now c.args.trail.now.variables es c.walk.new.marks c.shorten.new.marks c.shorten.new.hints.items place c.walk.new.lower.items c.push.new.self.items c.sort_unstable.new.self.items c.level-few.ensures.trail c.in_ok-push.ensures.items c.sort_unstable.ensures.permutation c.in_ok-place.ensures.listed c.in_ok-shorten.ensures.listed c.in_ok-shorten.ensures.asserts)
