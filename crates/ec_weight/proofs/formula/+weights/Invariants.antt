use Rattle.std.proofs.Common.{◌≡◌, ◌≤◌, ◌+◌, ◌^◌, drop}
use Rattle.ec_logic.specs.Universe.{universe_of}
use Rattle.ec_theory.specs.Sizes.{stopped}
use Rattle.ec_theory.specs.View.{formula_trees}
use Rattle.ec_weight.specs.Weight.{weights}
use Rattle.ec_weight.proofs.formula.+weights.Given as goal

abbrev pub invariant-weights-loop-f : goal.invariant-weights-loop-f
invariant-weights-loop-f l = record {
  small : l.total ≤ 2 ^ 62;
  rest : stopped (l.total + weights (universe_of l.signature) (formula_trees (drop l.f-index l.fs))) ≡ stopped (weights (universe_of l.signature) (formula_trees l.fs));
}
