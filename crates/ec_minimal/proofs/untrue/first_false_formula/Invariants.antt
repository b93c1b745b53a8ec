use Rattle.std.proofs.Common.{◌≡◌, map, take, true}
use Rattle.ec_logic.specs.Universe.{universe_of}
use Rattle.ec_logic.specs.Atom.{structure_of}
use Rattle.ec_logic.specs.Theory.{all_hold}
use Rattle.ec_theory.specs.View.{formula_tree}
use Rattle.ec_minimal.proofs.untrue.first_false_formula.Given as goal

abbrev pub invariant-loop-place : goal.invariant-loop-place
invariant-loop-place l = record {
  before : all_hold (universe_of l.signature) (structure_of (universe_of l.signature) l.structure) (take l.place (map formula_tree l.formulas)) ≡ true;
  same : l.scratch ≡ l.fn.scratch;
}
