use Rattle.std.proofs.Common.{◌≡◌, length, take}
use Rattle.ec_models.proofs.truths.Trial.visible_truth.Given as goal

abbrev pub invariant-loop-atom : goal.invariant-loop-atom
invariant-loop-atom l = record {
  size : length l.row ≡ l.visible;
  front : take l.atom l.row ≡ take l.atom l.structure;
}
