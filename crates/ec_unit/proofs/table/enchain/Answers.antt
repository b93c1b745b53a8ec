use Rattle.std.proofs.Common.{◌≡◌, ◌+◌, ◌*◌, ◌<◌, ◌≤◌, List, length, refl, sym, ap, subst, ◌∙◌, arith}
use Rattle.std.proofs.lemmas.List.{length-set}
use Rattle.std.specs.Prelude.{Contains}
use Rattle.ec_clause.specs.Literal.{Literal}
use Rattle.ec_clause.specs.ClauseList.{clause_at}
use Rattle.ec_unit.specs.Chained.{index_of}
use Rattle.ec_unit.proofs.Chaining.{index_below}
use Rattle.ec_unit.proofs.Unlinking.{chain_few}
use Rattle.ec_unit.proofs.Enchains.{size_of, enchain_short, enchain_short_chained, enchain_two, enchain_two_chained, two_of_clause}
use Rattle.ec_unit.proofs.table.enchain.Goals as goal

pub returns-then-clause-lt2-clause-working : goal.returns-then-clause-lt2-clause-working
returns-then-clause-lt2-clause-working c =
    let short : length (clause_at c.args.clauses.now (c.args.table.now.chained + 1)) < 2 = omega (arith, ap length c.get-clause.ensures.value, c.if-clause-lt2.true) in
    enchain_short c.args.clauses.now c.args.table.now c.args.trail.now c.requires.working c.requires.more short

pub returns-then-clause-lt2-clause-chained : goal.returns-then-clause-lt2-clause-chained
returns-then-clause-lt2-clause-chained c =
    let short : length (clause_at c.args.clauses.now (c.args.table.now.chained + 1)) < 2 = omega (arith, ap length c.get-clause.ensures.value, c.if-clause-lt2.true) in
    enchain_short_chained c.args.clauses.now c.args.table.now c.args.trail.now c.requires.working c.requires.chained c.requires.more short

pub attach-requires-clause-index : goal.attach-requires-clause-index
attach-requires-clause-index c =
    let w = c.requires.working in
    let first = c.index-clause-first.result in
    let range : first.variable ≤ c.args.table.now.variables = omega (arith, (c.get-clause.ensures.clause.in_range c.latest-first.result.0 first c.latest-first.ensures.first).1, ap (λ (x : Literal). x.variable) c.index-clause-first.is, w.list, w.variables) in
    omega (arith, index_below c.args.table.now.variables first range, c.requires.chained.size)

pub attach-requires-clause-place : goal.attach-requires-clause-place
attach-requires-clause-place c = omega (arith, size_of c.args.clauses.now c.args.table.now c.args.trail.now c.requires.working, c.requires.more)

pub attach-requires-clause-few : goal.attach-requires-clause-few
attach-requires-clause-few c =
    let t = c.args.table.now in
    let w = c.requires.working in
    let first = c.index-clause-first.result in
    let range : first.variable ≤ t.variables = omega (arith, (c.get-clause.ensures.clause.in_range c.latest-first.result.0 first c.latest-first.ensures.first).1, ap (λ (x : Literal). x.variable) c.index-clause-first.is, w.list, w.variables) in
    omega (arith, chain_few t.variables t.chains.chains.items t.chains.cells.items (2 * t.chained) first c.requires.chained range, c.requires.more, c.len.ensures.value, c.len.type_inv)

pub attach-requires-2-clause-index : goal.attach-requires-2-clause-index
attach-requires-2-clause-index c =
    let t = c.args.table.now in
    let w = c.requires.working in
    let second = c.index-clause-second.result in
    let range : second.variable ≤ t.variables = omega (arith, (c.get-clause.ensures.clause.in_range c.latest-first.result.1 second c.latest-first.ensures.second).1, ap (λ (x : Literal). x.variable) c.index-clause-second.is, w.list, w.variables) in
    let same : length c.attach.new.self.chains.items ≡ length t.chains.chains.items = ap length c.attach.ensures.chains ∙ length-set t.chains.chains.items (index_of c.index-clause-first.result) _ in
    omega (arith, index_below t.variables second range, c.requires.chained.size, same)

pub attach-requires-2-clause-place : goal.attach-requires-2-clause-place
attach-requires-2-clause-place c =
    let t = c.args.table.now in
    let same : length c.attach.new.self.cells.items ≡ length t.chains.cells.items = ap length c.attach.ensures.cells ∙ length-set t.chains.cells.items (2 * t.chained) _ in
    omega (arith, size_of c.args.clauses.now t c.args.trail.now c.requires.working, c.requires.more, same)

pub returns-clause-working : goal.returns-clause-working
returns-clause-working c =
    let t = c.args.table.now in
    let first = c.index-clause-first.result in
    let second = c.index-clause-second.result in
    let l = c.latest-first.ensures in
    let is = c.get-clause.ensures.value in
    let differ = two_of_clause c.args.clauses.now.variables c.get-clause.result.now c.latest-first.result.0 c.latest-first.result.1 first second c.get-clause.ensures.clause l.first l.second l.apart c.index-clause-first.is c.index-clause-second.is in
    let in_first : Contains (clause_at c.args.clauses.now (t.chained + 1)) first = subst (λ (xs : List Literal). Contains xs first) is (c.latest-first.result.0, l.first, sym c.index-clause-first.is) in
    let in_second : Contains (clause_at c.args.clauses.now (t.chained + 1)) second = subst (λ (xs : List Literal). Contains xs second) is (c.latest-first.result.1, l.second, sym c.index-clause-second.is) in
    let w = c.requires.working in
    let less : c.lean-worked.result ≤ length c.lean-worked.new.seen.items = omega (arith, c.lean-worked.ensures.less, w.worked, c.lean-worked.ensures.grows.longer) in
    enchain_two c.args.clauses.now t (record t { chains = c.attach-2.new.self; chained = t.chained + 1; seen = c.lean-table.new.seen; worked = c.lean-table.result }) c.args.trail.now first second c.lean-worked.new.seen.items c.lean-worked.result c.attach.new.self.cells.items _ _ w c.requires.more in_first in_second differ refl refl refl c.attach.ensures.cells c.attach-2.ensures.cells (c.lean-table.ensures.room ∙ c.lean-worked.ensures.room) c.lean-table.ensures.follows c.lean-worked.ensures.grows c.lean-table.ensures.grows c.lean-worked.ensures.less c.lean-table.ensures.less (c.lean-worked.ensures.held w.worked) (c.lean-table.ensures.held less)

pub returns-clause-chained : goal.returns-clause-chained
returns-clause-chained c =
    let t = c.args.table.now in
    let first = c.index-clause-first.result in
    let second = c.index-clause-second.result in
    let l = c.latest-first.ensures in
    let w = c.requires.working in
    let size = size_of c.args.clauses.now t c.args.trail.now w in
    let low : first.variable ≤ t.variables = omega (arith, (c.get-clause.ensures.clause.in_range c.latest-first.result.0 first l.first).1, ap (λ (x : Literal). x.variable) c.index-clause-first.is, w.list, w.variables) in
    let low' : second.variable ≤ t.variables = omega (arith, (c.get-clause.ensures.clause.in_range c.latest-first.result.1 second l.second).1, ap (λ (x : Literal). x.variable) c.index-clause-second.is, w.list, w.variables) in
    enchain_two_chained t first second c.attach.new.self.chains.items c.attach-2.new.self.chains.items c.attach.new.self.cells.items c.attach-2.new.self.cells.items c.requires.chained (omega (arith, size, c.requires.more)) low low' c.attach.ensures.chains c.attach.ensures.cells c.attach-2.ensures.chains c.attach-2.ensures.cells
