use Rattle.std.proofs.Common.{◌≡◌, ◌≤◌, ◌+◌, ◌++◌, List, ℕ, drop, IsTrue}
use Rattle.ec_logic.specs.Listing.{narratives_from}
use Rattle.ec_engine.proofs.narratives.put_narratives.Given as goal

abbrev pub invariant-loop-truth : goal.invariant-loop-truth
invariant-loop-truth g l = record {
  so_far : IsTrue (g.O.Sink.tells l.fn.out) → (sent : List ℕ) × (g.O.Sink.bytes l.out ≡ g.O.Sink.bytes l.fn.out ++ sent)
      × (narratives_from l.accepted.theory.signature 1 l.truths ≡ sent ++ narratives_from l.accepted.theory.signature l.number (drop l.truth-index l.truths));
  numbered : l.number ≡ l.truth-index + 1;
  tells : g.O.Sink.tells l.out ≡ g.O.Sink.tells l.fn.out;
  faults : g.O.Sink.faults l.fn.out ≤ g.O.Sink.faults l.out;
}
