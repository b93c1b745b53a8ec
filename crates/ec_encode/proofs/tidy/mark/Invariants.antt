use Rattle.std.proofs.Common.{◌≡◌, ◌++◌, ◌||◌, ◌+◌, ◌-◌, ◌≤◌, drop, length}
use Rattle.std.specs.Prelude.{vec_capacity}
use Rattle.ec_naming.specs.Marks.{kept_after, clash_after, marks_after, AreInRange}
use Rattle.ec_encode.proofs.tidy.mark.Given as goal

abbrev pub invariant-loop-lit : goal.invariant-loop-lit
invariant-loop-lit l = record {
  range : AreInRange (length l.marks - 1) (drop l.lit-index l.raw);
  room : length l.kept.items + (length l.raw - l.lit-index) ≤ vec_capacity l.kept;
  clash : (l.clash || clash_after l.marks (drop l.lit-index l.raw)) ≡ clash_after l.fn.marks l.raw;
  kept : l.kept.items ++ kept_after l.marks (drop l.lit-index l.raw) ≡ kept_after l.fn.marks l.raw;
  marks : marks_after l.marks (drop l.lit-index l.raw) ≡ marks_after l.fn.marks l.raw;
}
