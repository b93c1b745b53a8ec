use Rattle.std.proofs.Common.{◌≡◌, ◌≤◌, ◌++◌, List, ℕ, length, IsTrue}
use Rattle.ec_edge.proofs.lines.put_text.Given as goal

abbrev pub invariant-loop-line : goal.invariant-loop-line
invariant-loop-line g l = record {
  so_far : IsTrue (g.O.Sink.tells l.fn.out) → (sent : List ℕ) × (g.O.Sink.bytes l.out ≡ g.O.Sink.bytes l.fn.out ++ sent) × (l.fn.text ≡ sent ++ l.rest);
  tells : g.O.Sink.tells l.out ≡ g.O.Sink.tells l.fn.out;
  faults : g.O.Sink.faults l.fn.out ≤ g.O.Sink.faults l.out;
}

abbrev pub decreases-loop-line : goal.decreases-loop-line
decreases-loop-line g l = length l.rest
