use Rattle.std.proofs.Common.{◌≡◌, ◌≤◌, ◌+◌, ◌^◌, drop}
use Rattle.ec_logic.specs.Universe.{universe_of}
use Rattle.ec_theory.specs.Sizes.{stopped}
use Rattle.ec_theory.specs.View.{formula_trees}
use Rattle.ec_weight.specs.Weight.{head_instances_of, clause_weights}
use Rattle.ec_weight.proofs.clause.+clauses.Given as goal

abbrev pub invariant-clause_trees-loop-f : goal.invariant-clause_trees-loop-f
invariant-clause_trees-loop-f l = record {
  few : l.heads ≤ 2 ^ 62;
  small : l.total ≤ 2 ^ 62;
  heads_left : stopped (l.heads + head_instances_of (universe_of l.signature) (formula_trees (drop l.f-index l.fs))) ≡ stopped (head_instances_of (universe_of l.signature) (formula_trees l.fs));
  rest : stopped (l.total + clause_weights (universe_of l.signature) (formula_trees (drop l.f-index l.fs))) ≡ stopped (clause_weights (universe_of l.signature) (formula_trees l.fs));
}
