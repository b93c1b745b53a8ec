use Rattle.std.proofs.Common.{ℕ, pos, ◌+ℤ◌, w64, rules}
use Rattle.std.specs.Prelude.{FitsSigned}
use Rattle.std.proofs.lemmas.Int.{to_z-of_z}
use Rattle.ec_theory.proofs.DomainLemmas.{one_more}
use Rattle.ec_theory.proofs.domains.numbers_from.Goals as goal

pub loop-place-preserved : goal.loop-place-preserved
loop-place-preserved c =
    let fits : FitsSigned w64 c.args.least = search rules in
    let so_far = simp to_z-of_z at c.loop-place.invariant in
    let next = simp to_z-of_z at c.value_from.ensures in
    rw c.in_ok-push.ensures.items (simp to_z-of_z (one_more c.loop-place.values.items c.value_from.result (λ (k : ℕ). c.args.least +ℤ pos k) c.loop-place.place so_far next))
