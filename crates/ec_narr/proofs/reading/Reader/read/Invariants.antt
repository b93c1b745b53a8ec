use Rattle.std.proofs.Common.{◌≡◌, ◌≤◌, length}
use Rattle.std.specs.Prelude.{All}
use Rattle.ec_logic.specs.Signature.{Signature}
use Rattle.ec_narr.specs.Reading.{IsReaderOf, IsReadTo}
use Rattle.ec_narr.specs.Slots.{slots_view}
use Rattle.ec_narr.proofs.reading.Reader.read.Given as goal

abbrev pub invariant-loop-models : goal.invariant-loop-models
invariant-loop-models l = record {
  short : length l.rest ≤ length l.bytes;
  lengths : All (λ model. length model ≡ l.self.visible) l.models.items;
  on : (signature : Signature) → IsReaderOf signature (slots_view l.self.slots.now) l.self.visible → IsReadTo signature l.models.items l.bytes l.rest;
}

abbrev pub decreases-loop-models : goal.decreases-loop-models
decreases-loop-models l = length l.rest
