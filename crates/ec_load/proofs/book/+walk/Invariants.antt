use Rattle.std.proofs.Common.{◌≡◌, ℕ, ◌+◌, ◌*◌, ◌-◌, ◌≤◌, ◌<◌, List, Option, length, map, All, IsTrue}
use Rattle.std.specs.Vec.Iter.{into_iter_items}
use Rattle.ec_edge.specs.Pieces.{AllStay}
use Rattle.ec_syntax.specs.View.{statement_of}
use Rattle.ec_load.specs.Sound.{AreNamed, IsGathered, counted, counted_placed}
use Rattle.ec_load.specs.Gathered.{gathered}
use Rattle.ec_load.specs.Answers.{statements_of}
use Rattle.ec_load.proofs.Walk.{SoFar}
use Rattle.ec_load.proofs.book.+walk.Given as goal

-- Each file that is read leaves fewer to read.
abbrev pub decreases-add_file : goal.decreases-add_file
decreases-add_file g l = 3 * (64 - length (gathered l.book.now).files)

abbrev pub decreases-add_statement : goal.decreases-add_statement
decreases-add_statement g l = 3 * (64 - length (gathered l.book.now).files) + 1

abbrev pub decreases-add_statements : goal.decreases-add_statements
decreases-add_statements g l = 3 * (64 - length (gathered l.book.now).files) + 2

abbrev pub invariant-add_statements-loop-statement : goal.invariant-add_statements-loop-statement
invariant-add_statements-loop-statement g l = record {
  so_far : IsTrue (g.F.Files.tells l.fn.files) → (held : List ℕ → Option (List ℕ)) → AllStay held (g.F.Files.held l.fn.files) →
      SoFar held l.number l.file (statements_of l.fn.statements) (map statement_of (into_iter_items l.statement-iterator)) (gathered l.fn.book) (gathered l.book);
  named : All AreNamed (map statement_of (into_iter_items l.statement-iterator));
  sound : IsGathered (gathered l.book);
  number : l.number < length (gathered l.book).files;
  grows : length (gathered l.fn.book).files ≤ length (gathered l.book).files;
  few : counted_placed (gathered l.book).statements + counted (map statement_of (into_iter_items l.statement-iterator)) + 1048576 * length (gathered l.fn.book).files
      ≤ counted_placed (gathered l.fn.book).statements + counted (statements_of l.fn.statements) + 1048576 * length (gathered l.book).files;
  stays : AllStay (g.F.Files.held l.fn.files) (g.F.Files.held l.files);
  failed_starts : g.F.Files.failed_starts l.files ≡ g.F.Files.failed_starts l.fn.files;
  tells : g.F.Files.tells l.files ≡ g.F.Files.tells l.fn.files;
  faults : g.F.Files.faults l.fn.files ≤ g.F.Files.faults l.files;
  absences : g.F.Files.absences l.fn.files ≤ g.F.Files.absences l.files;
}
