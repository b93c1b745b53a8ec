use Rattle.std.proofs.Common.{◌≡◌, ◌-◌, length}
use Rattle.std.specs.Prelude.{vec_capacity}
use Rattle.ec_sat.specs.Heaped.{IsHeaped}
use Rattle.ec_sat.proofs.heap.Heap.fall.Given as goal

abbrev pub invariant-loop-child : goal.invariant-loop-child
invariant-loop-child l =
    IsHeaped l.self-inside.variables (vec_capacity l.self-inside.heap) l.self-inside.heap.items l.self-inside.places.items l.self-inside.activity.items × (l.self-inside.variables ≡ l.initial.self-inside.variables)

abbrev pub decreases-loop-child : goal.decreases-loop-child
decreases-loop-child l = length l.self-inside.heap.items - l.place
