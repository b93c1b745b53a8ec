use Rattle.std.proofs.Common.{◌≡◌, ◌++◌, map, drop}
use Rattle.ec_logic.specs.Shift.{shifted}
use Rattle.ec_logic.specs.Reach.{CanShiftEach}
use Rattle.ec_theory.specs.View.{formula_tree, formula_trees}
use Rattle.ec_complete.proofs.path_formula.add_shifted.Given as goal

abbrev pub invariant-loop-formula : goal.invariant-loop-formula
invariant-loop-formula l = record {
  room : CanShiftEach 0 l.by (formula_trees (drop l.formula-index l.formulas));
  rest : map formula_tree l.parts.items ++ map (shifted 0 l.by) (map formula_tree (drop l.formula-index l.formulas)) ≡ map formula_tree l.fn.parts.items ++ map (shifted 0 l.by) (map formula_tree l.formulas);
}
