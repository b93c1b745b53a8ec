use Rattle.std.proofs.Common.{◌≡◌, ◌-◌, length, take}
use Rattle.ec_logic.specs.Axiom.{for_each}
use Rattle.ec_theory.specs.View.{formula_tree}
use Rattle.ec_axiom.proofs.release.for_each.Given as goal

abbrev pub invariant-loop-passed : goal.invariant-loop-passed
invariant-loop-passed l = for_each (take (length l.sorts - l.passed) l.sorts) (formula_tree l.formula) ≡ for_each l.sorts (formula_tree l.fn.scope)
