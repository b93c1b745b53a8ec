use Rattle.std.proofs.Common.{◌≡◌, ◌+◌, ◌-◌, ◌*◌, ◌/◌, ◌≤◌, Some, None, refl, sym, ◌∙◌, arith}
use Rattle.ec_unit.specs.Chained.{lit_at}
use Rattle.ec_unit.proofs.Chaining.{index_below}
use Rattle.ec_unit.proofs.Visits.{visiting_more, visiting_stay, visiting_move, next_is, lit_is, head_fits, twin_fits, twin_leans, last_fits, chain_some}
use Rattle.ec_unit.proofs.Unlinking.{chain_few, unlinks_less, unlinks_size}
use Rattle.ec_unit.proofs.visit.pass.Goals as goal

pub unlink-requires-clause-last : goal.unlink-requires-clause-last
unlink-requires-clause-last c =
    last_fits c.args.clauses.now c.args.table.now c.args.trail.now c.args.walk.now None c.args.walk.now.last c.requires.visiting refl

pub unlink-requires-clause-some : goal.unlink-requires-clause-some
unlink-requires-clause-some c =
    chain_some c.args.clauses.now c.args.table.now c.args.trail.now c.args.walk.now None c.requires.visiting c.requires.more

pub returns-in-Stay-clause-visiting : goal.returns-in-Stay-clause-visiting
returns-in-Stay-clause-visiting c =
    let v = c.requires.visiting in
    let clauses = c.args.clauses.now in
    let t = c.args.table.now in
    let u = record t { seen = c.inspect-step.new.seen; chains = record t.chains { starts = c.inspect-step.new.starts } } in
    let walk = c.args.walk.now in
    let more = visiting_more clauses t u c.args.trail.now c.inspect-step.new.trail walk v refl c.inspect-step.ensures.room c.inspect-step.ensures.grows c.inspect-step.ensures.follows c.inspect-step.ensures.adds.variables in
    let fits = head_fits clauses t c.args.trail.now walk None v c.requires.more in
    let there = twin_fits clauses t c.args.trail.now walk None (walk.head / 2 + 1) c.twin.result v c.requires.more c.twin.ensures in
    let other : lit_at t.chains.cells.items c.twin.result ≡ Some c.in-Some.other = sym (lit_is t.chains.cells.items c.twin.result c.index.result.now there c.index.ensures) ∙ c.in-Some.is in
    visiting_stay clauses u c.inspect-step.new.trail walk None None c.index-2.result.now.next (walk.left - 1) more (next_is t.chains.cells.items walk.head c.index-2.result.now fits c.index-2.ensures) (omega (arith, c.requires.more)) (λ e. e) (λ e n b l of_ is. twin_leans u.seen.items t.chains.cells.items (walk.head / 2 + 1) n walk.head c.twin.result b c.in-Some.other l t.worked c.twin.ensures of_ other is c.in-Stay.ensures.step) tt

pub returns-in-Conflict-clause-visiting : goal.returns-in-Conflict-clause-visiting
returns-in-Conflict-clause-visiting c =
    let v = c.requires.visiting in
    let clauses = c.args.clauses.now in
    let t = c.args.table.now in
    let u = record t { seen = c.inspect-step.new.seen; chains = record t.chains { starts = c.inspect-step.new.starts } } in
    let walk = c.args.walk.now in
    let more = visiting_more clauses t u c.args.trail.now c.inspect-step.new.trail walk v refl c.inspect-step.ensures.room c.inspect-step.ensures.grows c.inspect-step.ensures.follows c.inspect-step.ensures.adds.variables in
    let fits = head_fits clauses t c.args.trail.now walk None v c.requires.more in
    visiting_stay clauses u c.inspect-step.new.trail walk None (Some (walk.head / 2 + 1)) c.index-2.result.now.next (walk.left - 1) more (next_is t.chains.cells.items walk.head c.index-2.result.now fits c.index-2.ensures) (omega (arith, c.requires.more)) (λ e. refl) (λ e. cc) c.in-Conflict.ensures.step

pub attach-requires-clause-index : goal.attach-requires-clause-index
attach-requires-clause-index c =
    let v = c.requires.visiting in
    let t = c.args.table.now in
    let walk = c.args.walk.now in
    let range : c.in-Move.lit.variable ≤ t.variables = omega (arith, c.in-Move.ensures.step.1, v.working.list, v.working.variables) in
    let size = unlinks_size walk.last t.chains.chains.items c.unlink.new.self.chains.items t.chains.cells.items c.unlink.new.self.cells.items walk.lit walk.head c.unlink.ensures in
    omega (arith, index_below t.variables c.in-Move.lit range, v.walking.size, size.0)

pub attach-requires-clause-few : goal.attach-requires-clause-few
attach-requires-clause-few c =
    let v = c.requires.visiting in
    let t = c.args.table.now in
    let walk = c.args.walk.now in
    let range : c.in-Move.lit.variable ≤ t.variables = omega (arith, c.in-Move.ensures.step.1, v.working.list, v.working.variables) in
    let index = index_below t.variables walk.lit v.range in
    let less = unlinks_less walk.last t.chains.chains.items c.unlink.new.self.chains.items t.chains.cells.items c.unlink.new.self.cells.items walk.lit c.in-Move.lit walk.head (omega (arith, index, v.walking.size)) c.unlink.ensures in
    let few = chain_few t.variables t.chains.chains.items t.chains.cells.items (2 * t.chained) c.in-Move.lit v.walking range in
    omega (arith, less, few, v.all, c.len-known.ensures.value, c.len-known.type_inv)

pub returns-in-Move-clause-visiting : goal.returns-in-Move-clause-visiting
returns-in-Move-clause-visiting c =
    let v = c.requires.visiting in
    let clauses = c.args.clauses.now in
    let t = c.args.table.now in
    let u = record t { seen = c.inspect-step.new.seen; chains = record t.chains { starts = c.inspect-step.new.starts } } in
    let walk = c.args.walk.now in
    let more = visiting_more clauses t u c.args.trail.now c.inspect-step.new.trail walk v refl c.inspect-step.ensures.room c.inspect-step.ensures.grows c.inspect-step.ensures.follows c.inspect-step.ensures.adds.variables in
    let fits = head_fits clauses t c.args.trail.now walk None v c.requires.more in
    let there = twin_fits clauses t c.args.trail.now walk None (walk.head / 2 + 1) c.twin.result v c.requires.more c.twin.ensures in
    let other : lit_at t.chains.cells.items c.twin.result ≡ Some c.in-Some.other = sym (lit_is t.chains.cells.items c.twin.result c.index.result.now there c.index.ensures) ∙ c.in-Some.is in
    let range : c.in-Move.lit.variable ≤ t.variables = omega (arith, c.in-Move.ensures.step.1, v.working.list, v.working.variables) in
    visiting_move clauses u (record u { chains = c.attach.new.self }) c.inspect-step.new.trail walk c.unlink.new.self.chains.items c.unlink.new.self.cells.items _ _ (walk.head / 2 + 1) c.twin.result c.in-Move.lit c.in-Some.other c.index-2.result.now.next (walk.left - 1) c.len-trail.ensures.trail more refl (next_is t.chains.cells.items walk.head c.index-2.result.now fits c.index-2.ensures) (omega (arith, c.requires.more)) c.unlink.ensures refl refl c.attach.ensures.chains c.attach.ensures.cells range c.twin.ensures other c.in-Move.ensures.step.0
