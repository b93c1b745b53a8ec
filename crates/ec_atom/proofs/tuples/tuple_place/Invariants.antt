use Rattle.std.proofs.Common.{◌≡◌, ◌<◌, ◌^◌, drop}
use Rattle.ec_logic.specs.Universe.{tuples, tuple_rank}
use Rattle.ec_theory.specs.Values.{numbers_of}
use Rattle.ec_atom.specs.Blocks.{universe_in, sorts_of, IsRow}
use Rattle.ec_atom.proofs.StrideLemmas.{after}
use Rattle.ec_atom.proofs.tuples.tuple_place.Given as goal

abbrev pub invariant-loop-i : goal.invariant-loop-i
invariant-loop-i l = record {
  row : IsRow (universe_in l.tables) (drop l.i l.row);
  few : tuples (universe_in l.tables) (sorts_of (drop l.i l.row)) < 2 ^ 62;
  rest : after l.place (tuple_rank (universe_in l.tables) (sorts_of (drop l.i l.row)) (numbers_of (drop l.i l.args))) ≡ tuple_rank (universe_in l.tables) (sorts_of l.row) (numbers_of l.args);
}
