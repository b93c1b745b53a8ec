use Rattle.std.proofs.Common.{◌≡◌, drop, ◌≤◌, ◌∷◌}
use Rattle.ec_logic.specs.Universe.{universe_of, extent_at}
use Rattle.ec_logic.specs.Truth.{all_true, any_true}
use Rattle.ec_logic.specs.Atom.{structure_of}
use Rattle.ec_logic.specs.Reach.{nesting_of}
use Rattle.ec_logic.specs.Reading.{IsReadable, AreReadable, AtEachValue}
use Rattle.ec_logic.proofs.Quantifiers.{all_from, any_from}
use Rattle.ec_theory.specs.View.{formula_tree, formula_trees}
use Rattle.ec_eval.proofs.truth.+truth.Given as goal

abbrev pub invariant-all_hold-loop-f : goal.invariant-all_hold-loop-f
invariant-all_hold-loop-f l =
    let universe = universe_of l.signature in
    let left = formula_trees (drop l.f-index l.fs) in
    let env = drop l.start l.fn.scratch in
    record {
      readable : AreReadable l.signature (drop l.start l.scratch) left;
      room : nesting_of left ≤ l.start;
      kept : drop l.start l.scratch ≡ env;
      rest : all_true universe (structure_of universe l.truths) (drop l.start l.scratch) left ≡ all_true universe (structure_of universe l.truths) env (formula_trees l.fs);
    }

abbrev pub invariant-any_holds-loop-f : goal.invariant-any_holds-loop-f
invariant-any_holds-loop-f l =
    let universe = universe_of l.signature in
    let left = formula_trees (drop l.f-index l.fs) in
    let env = drop l.start l.fn.scratch in
    record {
      readable : AreReadable l.signature (drop l.start l.scratch) left;
      room : nesting_of left ≤ l.start;
      kept : drop l.start l.scratch ≡ env;
      rest : any_true universe (structure_of universe l.truths) (drop l.start l.scratch) left ≡ any_true universe (structure_of universe l.truths) env (formula_trees l.fs);
    }

abbrev pub invariant-all_values_hold-loop-turn : goal.invariant-all_values_hold-loop-turn
invariant-all_values_hold-loop-turn l =
    let universe = universe_of l.signature in
    let env = drop l.start l.fn.scratch in
    let from = all_from universe (structure_of universe l.truths) env (formula_tree l.scope) (extent_at universe l.sort) in
    record {
      each : AtEachValue (extent_at universe l.sort) (λ v. IsReadable l.signature (v ∷ drop l.start l.scratch) (formula_tree l.scope));
      kept : drop l.start l.scratch ≡ env;
      rest : from l.turn ≡ from 0;
    }

abbrev pub invariant-any_value_holds-loop-turn : goal.invariant-any_value_holds-loop-turn
invariant-any_value_holds-loop-turn l =
    let universe = universe_of l.signature in
    let env = drop l.start l.fn.scratch in
    let from = any_from universe (structure_of universe l.truths) env (formula_tree l.scope) (extent_at universe l.sort) in
    record {
      each : AtEachValue (extent_at universe l.sort) (λ v. IsReadable l.signature (v ∷ drop l.start l.scratch) (formula_tree l.scope));
      kept : drop l.start l.scratch ≡ env;
      rest : from l.turn ≡ from 0;
    }
