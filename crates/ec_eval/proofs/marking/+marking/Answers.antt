use Rattle.std.proofs.Common.{◌≡◌, ◌<◌, ◌+◌, ◌≤◌, ◌∷◌, length, drop, max, arith, ap, sym, ◌∙◌, subst, List, ℤ}
use Rattle.ec_logic.specs.Universe.{universe_of, extent_at}
use Rattle.ec_logic.specs.Turns.{turns, at_turn}
use Rattle.ec_logic.specs.Atom.{structure_of}
use Rattle.ec_logic.specs.Reach.{nesting, nesting_of}
use Rattle.ec_logic.specs.Reading.{IsReadable, AreReadable, AtEachValue}
use Rattle.ec_logic.specs.Marks.{Joins, supported_by, supported_by_one, supported_in_turn}
use Rattle.ec_logic.proofs.Marking.{Comes, supported_from, comes_turn, comes_each}
use Rattle.ec_theory.proofs.formula.Formula.TheLaws.{the_size}
use Rattle.ec_theory.specs.View.{formula_tree, formula_trees}
use Rattle.ec_eval.proofs.FormulaLemmas.{formula_tree-And, and_size, next_formula}
use Rattle.ec_eval.proofs.marking.+marking.Goals as goal

pub mark_at-mark_each-requires : goal.mark_at-mark_each-requires
mark_at-mark_each-requires t c =
    let env = drop c.args.start c.args.scratch.now in
    let is = ap formula_tree c.in-And.is ∙ formula_tree-And c.in-And.fs in
    let readable : AreReadable c.args.signature.now env (formula_trees c.in-And.fs.items) = rw is at c.requires.readable in
    let room : nesting_of (formula_trees c.in-And.fs.items) ≤ c.args.start = rw is at c.requires.room in
    let value = sym c.deref-in-And.ensures.value in
    let R : List _ → Type 0 = λ fs. AreReadable c.args.signature.now env (formula_trees fs) in
    let N : List _ → Type 0 = λ fs. nesting_of (formula_trees fs) ≤ c.args.start in (
      rw c.deref-in-And.ensures.value (omega (arith, c.decreases, ap the_size c.in-And.is, and_size c.in-And.fs)),
      (c.requires.of, (c.requires.countable, (subst R value readable, (subst N value room, (c.requires.within, (c.requires.depth, c.requires.all)))))),
    )

pub mark_each-loop-f-preserved : goal.mark_each-loop-f-preserved
mark_each-loop-f-preserved t c =
    let signature = c.args.signature.now in
    let universe = universe_of signature in
    let m = structure_of universe c.args.truths.now in
    let env = drop c.args.start c.args.scratch.now in
    let later = formula_trees (drop (c.loop-f.f-index + 1) c.args.fs.now) in
    let f = formula_tree c.f-item.result in
    let e = next_formula c.args.fs.now c.loop-f.f-index c.f-item.result c.loop-f-test.true c.f-item.is in
    let readable = rw e at c.loop-f.invariant.readable in
    let R : List ℤ → Type 0 = λ x. AreReadable signature x later in
    let room : max (nesting f) (nesting_of later) ≤ c.args.start = rw e at c.loop-f.invariant.room in
    let comes = rw e at c.loop-f.invariant.rest in
    let joins : Joins universe (supported_by universe m env f) (structure_of universe c.loop-f.marks) (structure_of universe c.mark_at.new.marks) = rw (← c.loop-f.invariant.kept) c.mark_at.ensures.marks in
    record {
      readable = subst R (sym c.mark_at.ensures.kept) readable.1;
      room = omega arith;
      kept = c.mark_at.ensures.kept ∙ c.loop-f.invariant.kept;
      size = c.mark_at.ensures.size ∙ c.loop-f.invariant.size;
      rest = comes_each universe m env f later (structure_of universe c.loop-f.marks) (structure_of universe c.mark_at.new.marks) (structure_of universe c.args.marks.now) (supported_by_one universe m env (formula_trees c.args.fs.now)) joins comes;
    }

pub mark_values-loop-turn-preserved : goal.mark_values-loop-turn-preserved
mark_values-loop-turn-preserved t c =
    let signature = c.args.signature.now in
    let universe = universe_of signature in
    let m = structure_of universe c.args.truths.now in
    let env = drop c.args.start c.args.scratch.now in
    let f = formula_tree c.args.scope.now in
    let s = extent_at universe c.args.sort in
    let joins : Joins universe (supported_in_turn universe m env f (at_turn s c.loop-turn.turn)) (structure_of universe c.loop-turn.marks) (structure_of universe c.mark_turn.new.marks) = rw (← c.loop-turn.invariant.kept) c.mark_turn.ensures.marks in
    let within : c.loop-turn.turn < turns s = omega (arith, c.turn_count-turn-end.ensures.count, c.loop-turn-test.true) in
    let P : List ℤ → Type 0 = λ x. AtEachValue s (λ v. IsReadable signature (v ∷ x) f) in
    record {
      each = subst P (sym c.mark_turn.ensures.kept) c.loop-turn.invariant.each;
      kept = c.mark_turn.ensures.kept ∙ c.loop-turn.invariant.kept;
      size = c.mark_turn.ensures.size ∙ c.loop-turn.invariant.size;
      rest = comes_turn universe m env f s c.loop-turn.turn (structure_of universe c.loop-turn.marks) (structure_of universe c.mark_turn.new.marks) (structure_of universe c.args.marks.now) (supported_from universe m env f s 0) within joins c.loop-turn.invariant.rest;
    }
