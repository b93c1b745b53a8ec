use Rattle.std.proofs.Common.{◌≡◌, drop}
use Rattle.ec_logic.specs.ClauseTree.{only_have}
use Rattle.ec_theory.specs.View.{formula_trees}
use Rattle.ec_models.specs.Early.{is_no_effect}
use Rattle.ec_models.proofs.early.+effects.Given as goal

abbrev pub invariant-have_no_effects-loop-f : goal.invariant-have_no_effects-loop-f
invariant-have_no_effects-loop-f l = only_have is_no_effect (formula_trees (drop l.f-index l.fs)) ≡ only_have is_no_effect (formula_trees l.fs)
