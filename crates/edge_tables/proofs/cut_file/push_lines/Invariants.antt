use Rattle.std.proofs.Common.{IsTrue}
use Rattle.ec_log.specs.Reader.{FitsHeld}
use Rattle.edge_tables.proofs.cut_file.push_lines.Given as goal

abbrev pub invariant-loop : goal.invariant-loop
invariant-loop g l = IsTrue (g.F.Files.tells l.files) → FitsHeld l.reader (g.F.Files.held l.files l.name)
