use Rattle.std.proofs.Common.{◌≡◌, ℕ, length, slice_get, Some}
use Rattle.ec_logic.specs.Universe.{universe_of, extent_at}
use Rattle.ec_atom.specs.declared.table.Values.{Values}
use Rattle.ec_atom.specs.Numbering.{IsTableOf}
use Rattle.ec_atom.proofs.making.tables_of.Given as goal

abbrev pub invariant-loop-sort : goal.invariant-loop-sort
invariant-loop-sort l = record {
  count : length l.tables.items ≡ l.sort;
  each : (s : ℕ) (values : Values) → slice_get l.tables.items s ≡ Some values → IsTableOf (extent_at (universe_of l.signature) s) values;
}
