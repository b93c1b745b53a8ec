use Rattle.std.proofs.Common.{◌≡◌, max, ◌*◌, ◌<◌, ◌≤◌, ◌+◌, ◌^◌, drop, take, map}
use Rattle.ec_logic.specs.Shift.{shifted_term}
use Rattle.ec_logic.specs.Substitute.{substituted}
use Rattle.ec_logic.specs.Reach.{reach, nesting_of}
use Rattle.ec_theory.specs.View.{term_tree, formula_tree, formula_trees}
use Rattle.ec_theory.proofs.formula.Formula.TheLaws.{the_size}
use Rattle.ec_theory.proofs.substituting.+substitute.Given as goal

-- each call is of a part, or of the same at a lower number
abbrev pub decreases-substitute_in_formula : goal.decreases-substitute_in_formula
decreases-substitute_in_formula l = 3 * goal.size-substitute_in_formula l

abbrev pub decreases-substitute_in_boxed : goal.decreases-substitute_in_boxed
decreases-substitute_in_boxed l = 3 * goal.size-substitute_in_boxed l + 1

abbrev pub decreases-substitute_in_each : goal.decreases-substitute_in_each
decreases-substitute_in_each l = 3 * goal.size-substitute_in_each l + 1

abbrev pub decreases-substitute_under : goal.decreases-substitute_under
decreases-substitute_under l = 3 * goal.size-substitute_under l + 2

abbrev pub decreases-substitute_in_both : goal.decreases-substitute_in_both
decreases-substitute_in_both l = 3 * max (the_size l.f.now) (the_size l.g.now) + 2

abbrev pub invariant-substitute_in_each-loop-formula : goal.invariant-substitute_in_each-loop-formula
invariant-substitute_in_each-loop-formula l = record {
  place : l.at + nesting_of (formula_trees (drop l.formula-index l.formulas)) < 2 ^ 32;
  room : reach (term_tree l.term) + (l.passed + nesting_of (formula_trees (drop l.formula-index l.formulas))) ≤ 2 ^ 32;
  done : map formula_tree l.each.items ≡ map (λ f. substituted l.at (shifted_term 0 l.passed (term_tree l.term)) (formula_tree f)) (take l.formula-index l.formulas);
}
