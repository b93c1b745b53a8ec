use Rattle.std.proofs.Common.{◌≡◌, drop, ◌≤◌, ◌∷◌, length}
use Rattle.ec_logic.specs.Universe.{universe_of, extent_at}
use Rattle.ec_logic.specs.Atom.{structure_of}
use Rattle.ec_logic.specs.Marks.{supported_by_one}
use Rattle.ec_logic.specs.Reach.{nesting_of}
use Rattle.ec_logic.specs.Reading.{IsReadable, AreReadable, AtEachValue}
use Rattle.ec_logic.proofs.Marking.{Comes, supported_from}
use Rattle.ec_theory.specs.View.{formula_tree, formula_trees}
use Rattle.ec_eval.proofs.marking.+marking.Given as goal

abbrev pub invariant-mark_each-loop-f : goal.invariant-mark_each-loop-f
invariant-mark_each-loop-f l =
    let universe = universe_of l.signature in
    let left = formula_trees (drop l.f-index l.fs) in
    let env = drop l.start l.fn.scratch in
    record {
      readable : AreReadable l.signature (drop l.start l.scratch) left;
      room : nesting_of left ≤ l.start;
      kept : drop l.start l.scratch ≡ env;
      size : length l.marks ≡ length l.fn.marks;
      rest : Comes universe (structure_of universe l.marks) (supported_by_one universe (structure_of universe l.truths) env left) (structure_of universe l.fn.marks) (supported_by_one universe (structure_of universe l.truths) env (formula_trees l.fs));
    }

abbrev pub invariant-mark_values-loop-turn : goal.invariant-mark_values-loop-turn
invariant-mark_values-loop-turn l =
    let universe = universe_of l.signature in
    let env = drop l.start l.fn.scratch in
    let from = supported_from universe (structure_of universe l.truths) env (formula_tree l.scope) (extent_at universe l.sort) in
    record {
      each : AtEachValue (extent_at universe l.sort) (λ v. IsReadable l.signature (v ∷ drop l.start l.scratch) (formula_tree l.scope));
      kept : drop l.start l.scratch ≡ env;
      size : length l.marks ≡ length l.fn.marks;
      rest : Comes universe (structure_of universe l.marks) (from l.turn) (structure_of universe l.fn.marks) (from 0);
    }
