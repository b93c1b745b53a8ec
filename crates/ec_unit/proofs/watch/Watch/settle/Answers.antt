use Rattle.std.proofs.Common.{List, map, subst}
use Rattle.ec_unit.specs.declared.seen.Seen.{Seen}
use Rattle.ec_unit.specs.Watching.{Watched, Agrees}
use Rattle.ec_unit.specs.Working.{seen_lit}
use Rattle.ec_unit.proofs.Fronts.{agrees_from}
use Rattle.ec_unit.proofs.watch.Watch.settle.Goals as goal

pub settle_from-requires-clause-front : goal.settle_from-requires-clause-front
settle_from-requires-clause-front c =
    let es = c.args.trail.now.entries in
    let front = c.agreeing-front.result in
    let a = c.agreeing-front.ensures in
    let agrees = agrees_from c.deref.result.now es front a.seen a.trail a.same in
    subst (λ (w : Watched). Agrees w.seen es front) c.self.view_is (subst (λ (seen : List Seen). Agrees (map seen_lit seen) es front) c.deref.ensures.value agrees)
