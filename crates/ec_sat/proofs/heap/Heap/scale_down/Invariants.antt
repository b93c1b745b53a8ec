use Rattle.std.proofs.Common.{◌≡◌}
use Rattle.std.specs.Prelude.{vec_capacity}
use Rattle.ec_sat.specs.Heaped.{IsHeaped}
use Rattle.ec_sat.proofs.heap.Heap.scale_down.Given as goal

abbrev pub invariant-loop-place : goal.invariant-loop-place
invariant-loop-place l =
    IsHeaped l.self-inside.variables (vec_capacity l.self-inside.heap) l.self-inside.heap.items l.self-inside.places.items l.self-inside.activity.items × (l.self-inside.variables ≡ l.initial.self-inside.variables)
