use Rattle.std.proofs.Common.{◌≡◌, ◌+◌, map, take}
use Rattle.ec_logic.specs.Universe.{universe_of, before}
use Rattle.std.specs.List.{range_with_len}
use Rattle.ec_atom.specs.Blocks.{with_strides}
use Rattle.ec_atom.specs.Symbols.{rows_of}
use Rattle.ec_atom.proofs.making.blocks_of.Given as goal

abbrev pub invariant-loop-place : goal.invariant-loop-place
invariant-loop-place l = record {
  sum : l.sum ≡ before (universe_of l.signature) (rows_of (universe_of l.signature) l.symbols) l.place;
  firsts : l.firsts.items ≡ map (before (universe_of l.signature) (rows_of (universe_of l.signature) l.symbols)) (range_with_len 0 (l.place + 1));
  rows : map (λ row. row.items) l.rows.items ≡ map (with_strides (universe_of l.signature)) (take l.place (rows_of (universe_of l.signature) l.symbols));
}
