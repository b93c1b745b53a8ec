use Rattle.std.proofs.Common.{◌≡◌, ℕ, ◌<◌, ◌≤◌, IsTrue, map, take, get_or}
use Rattle.std.specs.List.{flat_map}
use Rattle.ec_edge.specs.Pieces.{OthersStay, appended}
use Rattle.ec_log.specs.Kept.{note_of}
use Rattle.ec_log.specs.Log.{line_text, noted, HasRange}
use Rattle.ec_log.specs.declared.kept.Kept.{Kept}
use Rattle.ec_log.proofs.append.append_notes.Given as goal

abbrev pub invariant-loop-kept : goal.invariant-loop-kept
invariant-loop-kept g l = record {
  so_far : IsTrue (g.F.Files.tells l.fn.files) → g.F.Files.held l.files l.name ≡ appended (g.F.Files.held l.fn.files l.name) (flat_map line_text (map noted (map note_of (take l.kept-index l.notes))));
  range : (k : ℕ) (d : Kept) → k < l.kept-index → HasRange (note_of (get_or l.notes k d));
  others : OthersStay l.name (g.F.Files.held l.fn.files) (g.F.Files.held l.files);
  tells : g.F.Files.tells l.files ≡ g.F.Files.tells l.fn.files;
  faults : g.F.Files.faults l.fn.files ≤ g.F.Files.faults l.files;
  absences : g.F.Files.absences l.fn.files ≤ g.F.Files.absences l.files;
  failed_starts : g.F.Files.failed_starts l.files ≡ g.F.Files.failed_starts l.fn.files;
}
