use Rattle.std.proofs.Common.{◌≡◌, ◌<◌, ◌^◌, ◌++◌, drop}
use Rattle.ec_logic.specs.Universe.{tuples, tuple_at}
use Rattle.ec_theory.specs.Values.{numbers_of}
use Rattle.ec_atom.specs.Blocks.{universe_in, sorts_of, IsRow}
use Rattle.ec_atom.proofs.tuples.tuple_at.Given as goal

abbrev pub invariant-loop-argument : goal.invariant-loop-argument
invariant-loop-argument l = record {
  row : IsRow (universe_in l.tables) (drop l.argument-index l.row);
  few : tuples (universe_in l.tables) (sorts_of (drop l.argument-index l.row)) < 2 ^ 62;
  below : l.rest < tuples (universe_in l.tables) (sorts_of (drop l.argument-index l.row));
  rest : numbers_of l.args.items ++ tuple_at (universe_in l.tables) (sorts_of (drop l.argument-index l.row)) l.rest ≡ tuple_at (universe_in l.tables) (sorts_of l.row) l.fn.place;
}
