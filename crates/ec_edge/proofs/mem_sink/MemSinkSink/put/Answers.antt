use Rattle.ec_edge.proofs.Prefixes.{rest_of_half}
use Rattle.ec_edge.proofs.mem_sink.MemSinkSink.put.Goals as goal

pub returns-then-next_fails-clause-part : goal.returns-then-next_fails-clause-part
returns-then-next_fails-clause-part c = λ _.
    let half = c.first_half.result.now in
    (half, _, rest_of_half c.args.piece.now half c.first_half.ensures, rw (← c.self.view_is) c.in_ok-extend_from_slice.ensures.items)
