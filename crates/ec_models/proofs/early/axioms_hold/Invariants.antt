use Rattle.std.proofs.Common.{◌≡◌, ◌≤◌, map, drop}
use Rattle.std.specs.List.{AllByRecursion}
use Rattle.ec_logic.specs.Universe.{universe_of}
use Rattle.ec_logic.specs.Atom.{structure_of}
use Rattle.ec_logic.specs.Reach.{nesting_of}
use Rattle.ec_logic.specs.Theory.{all_hold}
use Rattle.ec_logic.specs.ValidTheory.{IsSentence}
use Rattle.ec_theory.specs.View.{formula_tree, formula_trees}
use Rattle.ec_models.proofs.early.axioms_hold.Given as goal

abbrev pub invariant-loop-formula : goal.invariant-loop-formula
invariant-loop-formula l = record {
  rest : all_hold (universe_of l.signature) (structure_of (universe_of l.signature) l.structure) (map formula_tree (drop l.formula-index l.axioms)) ≡ all_hold (universe_of l.signature) (structure_of (universe_of l.signature) l.structure) (map formula_tree l.axioms);
  sentences : AllByRecursion (IsSentence l.signature) (map formula_tree (drop l.formula-index l.axioms));
  room : nesting_of (formula_trees (drop l.formula-index l.axioms)) ≤ l.scratch;
  same : l.scratch ≡ l.fn.scratch;
}
