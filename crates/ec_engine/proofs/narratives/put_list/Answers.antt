use Rattle.std.proofs.Common.{IsTrue}
use Rattle.std.proofs.lemmas.Result.{err_from_is_err_and}
use Rattle.ec_engine.proofs.Parts.{front_part, rest_part}
use Rattle.ec_engine.proofs.narratives.put_list.Goals as goal

pub returns-in_err-put_narratives-clause-part : goal.returns-in_err-put_narratives-clause-part
returns-in_err-put_narratives-clause-part g c = λ told.
    let p = err_from_is_err_and c.from_residual.result c.from_residual.ensures.1 in
    rw p.1 (front_part _ _ _ _ (c.in_err-put_narratives.ensures.part told))

pub returns-clause-part : goal.returns-clause-part
returns-clause-part g c = λ told.
    let now : IsTrue (g.O.Sink.tells c.put_narratives.new.out) = rw c.in_ok-put_narratives.ensures.tells told in
    rest_part c.put_text.result _ _ _ _ _ (c.in_ok-put_narratives.ensures.ok told)
    (rw (c.deref.ensures.value, c.in_ok-last.ensures) at c.put_text.ensures.part now)
