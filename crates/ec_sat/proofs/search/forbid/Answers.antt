use Rattle.std.proofs.Common.{◌≡◌, ◌+◌, ◌++◌, ◌∷◌, [], false, not, sym, ap, ◌∙◌, arith}
use Rattle.std.proofs.lemmas.List.{take_all}
use Rattle.std.specs.Prelude.{unwrap_or}
use Rattle.ec_trail.specs.TrailList.{truth_of}
use Rattle.ec_sat.specs.Run.{forbidden, blocked_clause}
use Rattle.ec_sat.proofs.Blocking.{literal_is, value_is, blocked_more, length-blocked}
use Rattle.ec_sat.proofs.search.forbid.Goals as goal

pub loop-place-preserved : goal.loop-place-preserved
loop-place-preserved c =
    let p = truth_of c.args.trail.now in
    let k = c.loop-place.place in
    let value = c.unwrap_or-value.ensures ∙ ap (λ o. unwrap_or o false) c.value.ensures ∙ value_is p c.new-lit.result (k + 1) c.new-lit.ensures.variable c.new-lit.ensures.positive in
    let is : c.new.result ≡ forbidden p (k + 1) = literal_is c.new.result (k + 1) _ c.new.ensures.variable (c.new.ensures.positive ∙ ap not value) in
    c.in_ok-push.ensures.items ∙ ap (λ xs. xs ++ c.new.result ∷ []) c.loop-place.invariant ∙ sym (blocked_more c.args.visible p k c.new.result (omega arith) is)

pub returns : goal.returns
returns c =
    c.loop-place.invariant ∙ take_all c.loop-place.place (blocked_clause c.args.visible (truth_of c.args.trail.now)) (omega (arith, length-blocked c.args.visible (truth_of c.args.trail.now)))
