use Rattle.std.proofs.Common.{◌≡◌, ◌+◌, ◌*◌, max, drop, take, map}
use Rattle.ec_logic.specs.Shift.{shifted}
use Rattle.ec_logic.specs.Reach.{CanShiftEach}
use Rattle.ec_theory.specs.View.{formula_tree, formula_trees}
use Rattle.ec_theory.proofs.formula.Formula.TheLaws.{the_size}
use Rattle.ec_theory.proofs.shifting.+shift_formula.Given as goal

-- each call is of a part, or of the same at a lower number
abbrev pub decreases-shift_formula : goal.decreases-shift_formula
decreases-shift_formula l = 3 * goal.size-shift_formula l

abbrev pub decreases-shift_boxed : goal.decreases-shift_boxed
decreases-shift_boxed l = 3 * goal.size-shift_boxed l + 1

abbrev pub decreases-shift_each : goal.decreases-shift_each
decreases-shift_each l = 3 * goal.size-shift_each l + 1

abbrev pub decreases-shift_under : goal.decreases-shift_under
decreases-shift_under l = 3 * goal.size-shift_under l + 2

abbrev pub decreases-shift_both : goal.decreases-shift_both
decreases-shift_both l = 3 * max (the_size l.f.now) (the_size l.g.now) + 2

abbrev pub invariant-shift_each-loop-formula : goal.invariant-shift_each-loop-formula
invariant-shift_each-loop-formula l = record {
  room : CanShiftEach l.from l.by (formula_trees (drop l.formula-index l.formulas));
  done : map formula_tree l.each.items ≡ map (λ f. shifted l.from l.by (formula_tree f)) (take l.formula-index l.formulas);
}
