use Rattle.std.proofs.Common.{◌≡◌, ◌≤◌, ◌<◌, ◌+◌, ℕ, Some, length, slice_get}
use Rattle.ec_logic.specs.Signature.{SymbolRow}
use Rattle.ec_logic.specs.ValidTheory.{binder_limit}
use Rattle.ec_ground.proofs.room.deepest_nesting.Given as goal

abbrev pub invariant-loop-fluent : goal.invariant-loop-fluent
invariant-loop-fluent l = record {
  file : binder_limit ≤ l.deepest;
  release : (k : ℕ) (row : SymbolRow) → k < l.fluent → slice_get l.signature.fluents k ≡ Some row → length row.sorts + 1 ≤ l.deepest;
}
