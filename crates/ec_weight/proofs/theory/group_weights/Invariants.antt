use Rattle.std.proofs.Common.{◌≡◌, ◌≤◌, ◌+◌, ◌^◌, drop, map}
use Rattle.ec_logic.specs.Universe.{universe_of}
use Rattle.ec_theory.specs.Sizes.{stopped}
use Rattle.ec_theory.specs.Theories.{group_of}
use Rattle.ec_weight.specs.Weight.{group_weights}
use Rattle.ec_weight.proofs.theory.group_weights.Given as goal

abbrev pub invariant-loop-group : goal.invariant-loop-group
invariant-loop-group l = record {
  small : l.total ≤ 2 ^ 62;
  rest : stopped (l.total + group_weights (universe_of l.signature) (map group_of (drop l.group-index l.groups))) ≡ stopped (group_weights (universe_of l.signature) (map group_of l.groups));
}
