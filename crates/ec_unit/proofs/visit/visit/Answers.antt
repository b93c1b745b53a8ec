use Rattle.std.proofs.Common.{◌≡◌, ◌<◌, None, length, get_or, refl, ap, ◌∙◌, arith}
use Rattle.std.proofs.lemmas.List.{get_or_default}
use Rattle.ec_unit.specs.Chained.{index_of, chain_at, no_chain}
use Rattle.ec_unit.specs.declared.chains.Chain.{Chain}
use Rattle.ec_unit.specs.declared.visit.Walk.{Walk}
use Rattle.ec_unit.proofs.Chaining.{index_below}
use Rattle.ec_unit.proofs.Growing.{grows_none, grows_more}
use Rattle.ec_unit.proofs.Adding.{adds_none, adds_more}
use Rattle.ec_unit.proofs.Visits.{visiting_start, visited_held}
use Rattle.ec_unit.proofs.visit.visit.Goals as goal

pub loop-walk-init : goal.loop-walk-init
loop-walk-init c =
    let t = c.args.table.now in
    let chains = t.chains.chains.items in
    let chain = c.index-chain.result.now in
    let index : index_of c.args.lit < length chains = omega (arith, index_below t.variables c.args.lit c.requires.range, c.requires.chained.size) in
    let is : chain ≡ chain_at chains c.args.lit = c.index-chain.ensures ∙ ap (λ i. get_or chains i chain) c.index.ensures ∙ get_or_default chains (index_of c.args.lit) chain no_chain index in
    let walk : Walk = record { lit = c.args.lit; last = None; head = chain.head; left = chain.len } in
    (visiting_start c.args.clauses.now t c.args.trail.now walk c.requires.working c.requires.chained c.requires.all c.requires.here c.requires.lit c.requires.range refl (ap (λ (x : Chain). x.head) is) (ap (λ (x : Chain). x.len) is), refl, refl, refl, grows_none t.seen.items, adds_none c.args.clauses.now c.args.trail.now)

pub returns-in-Some-clause-adds : goal.returns-in-Some-clause-adds
returns-in-Some-clause-adds c = adds_more c.args.clauses.now c.args.trail.now c.loop-walk.trail c.pass.new.trail c.loop-walk.invariant.5 c.pass.ensures.adds

pub loop-walk-preserved : goal.loop-walk-preserved
loop-walk-preserved c =
    let i = c.loop-walk.invariant in
    (c.in_default.ensures.visiting, c.pass.ensures.lit ∙ i.1, c.pass.ensures.worked ∙ i.2, c.pass.ensures.short ∙ i.3, grows_more c.args.table.now.seen.items c.loop-walk.table.seen.items c.pass.new.table.seen.items i.4 c.pass.ensures.grows, adds_more c.args.clauses.now c.args.trail.now c.loop-walk.trail c.pass.new.trail i.5 c.pass.ensures.adds)

pub returns-clause-none : goal.returns-clause-none
returns-clause-none c = visited_held c.args.clauses.now c.loop-walk.table c.loop-walk.trail c.loop-walk.walk c.loop-walk.invariant.0 (omega (arith, c.loop-walk-test.false))
