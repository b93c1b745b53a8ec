use Rattle.std.proofs.Common.{◌≡◌, ◌≤◌, ◌-◌, length, vec_len, ◌+◌}
use Rattle.ec_edge.specs.Pieces.{AllStay}
use Rattle.ec_edge.proofs.Reading.{SoFar}
use Rattle.ec_edge.proofs.whole.read_whole.Given as goal

abbrev pub invariant-loop-buf : goal.invariant-loop-buf
invariant-loop-buf g l = record {
  so_far : SoFar (g.F.Files.tells l.fn.files) (g.F.Files.held l.fn.files l.name) l.bytes.items;
  room : length l.buf ≡ 4096;
  within : vec_len l.bytes ≤ l.end;
  end : l.end ≡ l.limit + 1;
  stays : AllStay (g.F.Files.held l.fn.files) (g.F.Files.held l.files);
  failed_starts : g.F.Files.failed_starts l.files ≡ g.F.Files.failed_starts l.fn.files;
  tells : g.F.Files.tells l.files ≡ g.F.Files.tells l.fn.files;
  faults : g.F.Files.faults l.fn.files ≤ g.F.Files.faults l.files;
  absences : g.F.Files.absences l.fn.files ≤ g.F.Files.absences l.files;
}

abbrev pub decreases-loop-buf : goal.decreases-loop-buf
decreases-loop-buf g l = l.limit + 1 - vec_len l.bytes
