use Rattle.ec_sat.proofs.Heaps.{replaced}
use Rattle.std.specs.Prelude.{vec_capacity}
use Rattle.ec_sat.proofs.heap.Heap.pop.Goals as goal

pub invariant_of-self-2 : goal.invariant_of-self-2
invariant_of-self-2 c =
    let a = c.self.inside in
    rw c.in_ok-last.ensures.capacity (replaced a.variables (vec_capacity a.heap) a.heap.items c.pop.new.self.items a.places.items a.activity.items c.in_ok-last.last c.self.invariant c.in_ok-last.ensures.items)
