use Rattle.std.proofs.Common.{◌-◌, ◌^◌, [], ◌∷◌, ◌++◌, ◌∙◌, length, ap, arith}
use Rattle.std.proofs.lemmas.List.{length_push}
use Rattle.ec_unit.specs.declared.seen.Seen.{Seen}
use Rattle.ec_unit.proofs.Growing.{grows_more, grows_push, sees_more}
use Rattle.ec_unit.proofs.seen.see.Goals as goal

pub loop-place-preserved : goal.loop-place-preserved
loop-place-preserved c =
    let seen = c.loop-place.seen.items in
    let i = c.loop-place.invariant in
    let one : Seen = record { lit = c.at.result; lean = 2 ^ 32 - 1 } in
    let pushed = c.push_reserved.ensures.items in
    (omega (arith, ap length pushed, length_push seen one, i.0), c.push_reserved.ensures.capacity ∙ i.1, rw pushed (sees_more c.args.trail.now.entries seen c.loop-place.place one i.0 (omega arith) c.at.ensures i.2), rw pushed (grows_more c.args.seen.now.items seen (seen ++ one ∷ []) i.3 (grows_push seen one)))
