use Rattle.std.proofs.Common.{◌≡◌, ◌-◌, drop, length}
use Rattle.ec_naming.specs.Marks.{unmarked, AreInRange}
use Rattle.ec_encode.proofs.tidy.unmark.Given as goal

abbrev pub invariant-loop-lit : goal.invariant-loop-lit
invariant-loop-lit l = record {
  range : AreInRange (length l.marks - 1) (drop l.lit-index l.raw);
  rest : unmarked l.marks (drop l.lit-index l.raw) ≡ unmarked l.fn.marks l.raw;
}
