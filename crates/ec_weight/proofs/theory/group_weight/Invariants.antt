use Rattle.std.proofs.Common.{◌≡◌, ◌≤◌, ◌+◌, ◌^◌, drop}
use Rattle.ec_logic.specs.TreeList.{formulas_of}
use Rattle.ec_logic.specs.Universe.{universe_of}
use Rattle.ec_theory.specs.Sizes.{stopped}
use Rattle.ec_theory.specs.Theories.{sentence_trees}
use Rattle.ec_weight.specs.Weight.{clause_weights}
use Rattle.ec_weight.proofs.theory.group_weight.Given as goal

abbrev pub invariant-loop-sentence : goal.invariant-loop-sentence
invariant-loop-sentence l = record {
  small : l.total ≤ 2 ^ 62;
  rest : stopped (l.total + clause_weights (universe_of l.signature) (formulas_of (sentence_trees (drop l.sentence-index l.sentences)))) ≡ stopped (clause_weights (universe_of l.signature) (formulas_of (sentence_trees l.sentences)));
}
