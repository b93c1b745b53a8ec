use Rattle.std.proofs.Common.{◌≡◌, ◌≤◌, ℕ, None, get_or}
use Rattle.ec_trail.specs.TrailList.{truth_of}
use Rattle.ec_sat.proofs.order.first_free.Given as goal

abbrev pub invariant-loop : goal.invariant-loop
invariant-loop l = l.heap ≡ l.initial.heap

abbrev pub invariant-loop-place : goal.invariant-loop-place
invariant-loop-place l = (v : ℕ) → 1 ≤ v → v ≤ l.place → get_or (truth_of l.trail) v None ≡ None → ⊥
