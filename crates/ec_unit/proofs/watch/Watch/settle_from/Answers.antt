use Rattle.std.proofs.Common.{◌≤◌, length, refl, sym, ap, subst, ◌∙◌, arith}
use Rattle.std.proofs.lemmas.List.{length-take-le}
use Rattle.ec_unit.specs.Watching.{Watched, Watches, Agrees}
use Rattle.ec_unit.proofs.Fronts.{agrees_size, agrees_front}
use Rattle.ec_unit.proofs.Tables.{working_from}
use Rattle.ec_unit.proofs.watch.Watch.settle_from.Goals as goal

pub forget-table-requires-clause-front : goal.forget-table-requires-clause-front
forget-table-requires-clause-front c =
    let es = c.args.trail.now.entries in
    let agrees = subst (λ (w : Watched). Agrees w.seen es c.args.front) (sym c.self.view_is) c.requires.front in
    agrees_size c.self.inside.table.seen.items es c.args.front agrees

pub see-requires-clause-front : goal.see-requires-clause-front
see-requires-clause-front c =
    let es = c.args.trail.now.entries in
    let seen = c.self.inside.table.seen.items in
    let agrees = subst (λ (w : Watched). Agrees w.seen es c.args.front) (sym c.self.view_is) c.requires.front in
    ap length c.forget-table.ensures.seen ∙ length-take-le c.args.front seen (agrees_size seen es c.args.front agrees)

pub see-requires-clause-same : goal.see-requires-clause-same
see-requires-clause-same c =
    let es = c.args.trail.now.entries in
    let seen = c.self.inside.table.seen.items in
    let agrees = subst (λ (w : Watched). Agrees w.seen es c.args.front) (sym c.self.view_is) c.requires.front in
    agrees_front seen c.forget-table.new.seen.items es c.args.front agrees c.forget-table.ensures.seen

pub work-requires-clause-working : goal.work-requires-clause-working
work-requires-clause-working c =
    let t = c.self.inside.table in
    let f = c.forget-table.ensures in
    let s = c.see.ensures in
    let es = c.args.trail.now.entries in
    let watches = subst (Watches c.args.clauses.now) (sym c.self.view_is) c.requires.watched in
    let agrees = subst (λ (w : Watched). Agrees w.seen es c.args.front) (sym c.self.view_is) c.requires.front in
    let front = agrees_size t.seen.items es c.args.front agrees in
    let within : c.forget-table.result ≤ length c.forget-table.new.seen.items = omega (arith, f.within, ap length f.seen, length-take-le c.args.front t.seen.items front) in
    working_from c.args.clauses.now t (record t { seen = c.see.new.seen; worked = c.forget-table.result }) c.args.trail.now c.forget-table.new.seen.items c.self.invariant watches c.requires.variables refl (s.room ∙ f.room) s.follows s.grows within f.held
