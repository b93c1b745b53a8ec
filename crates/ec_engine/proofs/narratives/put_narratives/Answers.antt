use Rattle.std.proofs.Common.{IsTrue}
use Rattle.std.proofs.lemmas.Result.{err_from_is_err_and}
use Rattle.ec_edge.proofs.Prefixes.{AppendsPrefix-after}
use Rattle.ec_engine.proofs.Parts.{next_is}
use Rattle.ec_engine.proofs.narratives.put_narratives.Goals as goal

pub returns-in_err-put_narrative-clause-part : goal.returns-in_err-put_narrative-clause-part
returns-in_err-put_narrative-clause-part g c = λ told.
    let p = err_from_is_err_and c.from_residual.result c.from_residual.ensures.1 in
    let now : IsTrue (g.O.Sink.tells c.loop-truth.out) = rw c.loop-truth.invariant.tells told in
    let so_far = c.loop-truth.invariant.so_far told in
    let next = next_is c.args.accepted.now.theory.signature c.loop-truth.number c.loop-truth.truth-index c.args.truths.now c.truth-item.result c.loop-truth-test.true c.truth-item.is in
    rw p.1 (AppendsPrefix-after _ _ so_far.0 _ _ _ _ (c.in_err-put_narrative.ensures.part now) so_far.1 (rw next at so_far.2))
