use Rattle.std.proofs.Common.{◌≡◌, ◌+◌, ◌-◌, ◌≤◌, length, IsTrue}
use Rattle.ec_edge.specs.Pieces.{AllStay}
use Rattle.ec_log.specs.Collecting.{IsBehind, HasFrontHeld}
use Rattle.ec_log.specs.Reader.{largest_log}
use Rattle.ec_log.proofs.reader.LogReader.next.Given as goal

abbrev pub invariant-pieces : goal.invariant-pieces
invariant-pieces g l = record {
  behind : IsBehind l.fn.self l.front.items l.self;
  read : IsTrue (g.F.Files.tells l.fn.files) → HasFrontHeld l.fn.self.place l.front.items l.self.held (g.F.Files.held l.fn.files l.name);
  stays : AllStay (g.F.Files.held l.fn.files) (g.F.Files.held l.files);
  failed_starts : g.F.Files.failed_starts l.files ≡ g.F.Files.failed_starts l.fn.files;
  tells : g.F.Files.tells l.files ≡ g.F.Files.tells l.fn.files;
  faults : g.F.Files.faults l.fn.files ≤ g.F.Files.faults l.files;
  absences : g.F.Files.absences l.fn.files ≤ g.F.Files.absences l.files;
}

abbrev pub decreases-pieces : goal.decreases-pieces
decreases-pieces g l = largest_log + 1 - (l.self.place + length l.self.held)
