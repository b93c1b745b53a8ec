use Rattle.std.proofs.Common.{pos, ◌∙◌, ap, arith}
use Rattle.ec_theory.proofs.DomainLemmas.{one_more}
use Rattle.ec_theory.proofs.domains.places_below.Goals as goal

pub loop-place-preserved : goal.loop-place-preserved
loop-place-preserved c = rw c.in_ok-push.ensures.items (one_more c.loop-place.values.items c.value_from.result pos c.loop-place.place c.loop-place.invariant (c.value_from.ensures ∙ ap pos (omega arith)))
