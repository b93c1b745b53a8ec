use Rattle.std.proofs.Common.{◌≡◌, ◌≤◌}
use Rattle.ec_edge.specs.Pieces.{AllStay}
use Rattle.ec_checking.proofs.CheckLemmas.{IsAt}
use Rattle.ec_checking.proofs.check.check_notes.Given as goal

abbrev pub invariant-loop-number : goal.invariant-loop-number
invariant-loop-number g l = record {
  at : IsAt l.fn.walk.checker.list l.truths (g.F.Files.tells l.fn.files) (g.F.Files.held l.fn.files l.log) l.number l.walk l.reader;
  stays : AllStay (g.F.Files.held l.fn.files) (g.F.Files.held l.files);
  failed_starts : g.F.Files.failed_starts l.files ≡ g.F.Files.failed_starts l.fn.files;
  tells : g.F.Files.tells l.files ≡ g.F.Files.tells l.fn.files;
  faults : g.F.Files.faults l.fn.files ≤ g.F.Files.faults l.files;
  absences : g.F.Files.absences l.fn.files ≤ g.F.Files.absences l.files;
}
