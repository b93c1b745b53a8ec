use Rattle.std.proofs.Common.{◌≡◌, ◌-◌, ◌≤◌, ◌^◌, min, ap, ◌∙◌, arith, length}
use Rattle.std.proofs.lemmas.Grind.{common_steps}
use Rattle.ec_atom.proofs.NumberLemmas.{visible_next, visible_end}
use Rattle.ec_atom.proofs.making.count_visible.Goals as goal

pub loop-place-preserved : goal.loop-place-preserved
loop-place-preserved c =
    let many : 6 ≤ length c.args.signature.now.predicates = omega (arith, c.predicates-place-end.ensures.count, c.predicates-place-end.ensures.built_in) in
    c.sum_of-sum.ensures ∙ visible_next c.args.signature.now many c.loop-place.place c.loop-place.sum c.atoms_at.result (grind (arith, common_steps)) c.loop-place.invariant c.atoms_at.ensures

pub returns : goal.returns
returns c =
    let many : 6 ≤ length c.args.signature.now.predicates = omega (arith, c.predicates-place-end.ensures.count, c.predicates-place-end.ensures.built_in) in
    let end : c.loop-place.place ≡ length c.args.signature.now.predicates - 3 = grind (arith, common_steps) in
    c.loop-place.invariant ∙ ap (λ n. min n (2 ^ 62)) (visible_end c.args.signature.now many c.loop-place.place end)
