use Rattle.std.proofs.Common.{◌≡◌, ◌<◌, ◌+◌, ◌&&◌, ◌||◌, arith, sym, ap, ◌∙◌, drop, true, false, ◌∷◌, w64, rules, refl, List, ℤ, subst}
use Rattle.std.specs.Prelude.{FitsSigned}
use Rattle.std.proofs.lemmas.Int.{to_z-of_z}
use Rattle.ec_logic.specs.Universe.{universe_of, extent_at}
use Rattle.ec_logic.specs.Turns.{turns, at_turn}
use Rattle.ec_logic.specs.InTurn.{truth_in_turn}
use Rattle.ec_logic.specs.Atom.{structure_of}
use Rattle.ec_logic.specs.Reading.{IsReadable, AtEachValue}
use Rattle.ec_logic.proofs.Quantifiers.{all_from, all_from_step, all_from_start, any_from, any_from_step, any_from_start}
use Rattle.std.specs.List.{list_all, list_any}
use Rattle.ec_logic.specs.Tree as tree
use Rattle.ec_logic.specs.Truth.{truth}
use Rattle.ec_logic.specs.Place.{kept_values}
use Rattle.ec_theory.specs.declared.formula.Formula.{Formula}
use Rattle.ec_theory.specs.View.{formula_tree}
use Rattle.ec_eval.proofs.FormulaLemmas.{formula_tree-ForAll, formula_tree-Exists}
use Rattle.ec_eval.proofs.truth.+truth.Goals as goal

pub turn_holds-returns-in-Some-clause-answer : goal.turn_holds-returns-in-Some-clause-answer
turn_holds-returns-in-Some-clause-answer t c =
    let w : FitsSigned w64 c.in-Some.v = search rules in
    let a = simp to_z-of_z at c.value_holds.ensures.answer in
    rw (← c.in-Some.ensures.turn) a

pub turn_holds-returns-in-None-clause-answer : goal.turn_holds-returns-in-None-clause-answer
turn_holds-returns-in-None-clause-answer t c = rw (← c.in-None.ensures.turn) refl

pub all_values_hold-loop-turn-preserved : goal.all_values_hold-loop-turn-preserved
all_values_hold-loop-turn-preserved t c =
    let universe = universe_of c.args.signature.now in
    let m = structure_of universe c.args.truths.now in
    let env = drop c.args.start c.args.scratch.now in
    let f = formula_tree c.args.scope.now in
    let s = extent_at universe c.args.sort in
    let h : c.turn_holds.result ≡ truth_in_turn universe m env f true (at_turn s c.loop-turn.turn) = rw (← c.loop-turn.invariant.kept) c.turn_holds.ensures.answer in
    let within : c.loop-turn.turn < turns s = omega (arith, c.turn_count-turn-end.ensures.count, c.loop-turn-test.true) in
    let e = all_from_step universe m env f s c.loop-turn.turn c.turn_holds.result within h in
    let stays = ap (λ b. b && all_from universe m env f s (c.loop-turn.turn + 1)) c.if-not-turn_holds.false in
    let P : List ℤ → Type 0 = λ x. AtEachValue s (λ v. IsReadable c.args.signature.now (v ∷ x) f) in
    record {
      each = subst P (sym c.turn_holds.ensures.kept) c.loop-turn.invariant.each;
      kept = c.turn_holds.ensures.kept ∙ c.loop-turn.invariant.kept;
      rest = sym (e ∙ stays) ∙ c.loop-turn.invariant.rest;
    }

pub all_values_hold-returns-then-not-turn_holds-clause-answer : goal.all_values_hold-returns-then-not-turn_holds-clause-answer
all_values_hold-returns-then-not-turn_holds-clause-answer t c =
    let universe = universe_of c.args.signature.now in
    let m = structure_of universe c.args.truths.now in
    let env = drop c.args.start c.args.scratch.now in
    let f = formula_tree c.args.scope.now in
    let s = extent_at universe c.args.sort in
    let h : c.turn_holds.result ≡ truth_in_turn universe m env f true (at_turn s c.loop-turn.turn) = rw (← c.loop-turn.invariant.kept) c.turn_holds.ensures.answer in
    let within : c.loop-turn.turn < turns s = omega (arith, c.turn_count-turn-end.ensures.count, c.loop-turn-test.true) in
    let e = all_from_step universe m env f s c.loop-turn.turn c.turn_holds.result within h in
    let stops = ap (λ b. b && all_from universe m env f s (c.loop-turn.turn + 1)) c.if-not-turn_holds.true in
    sym (e ∙ stops) ∙ (c.loop-turn.invariant.rest ∙ all_from_start universe m env f c.args.sort)

pub any_value_holds-loop-turn-preserved : goal.any_value_holds-loop-turn-preserved
any_value_holds-loop-turn-preserved t c =
    let universe = universe_of c.args.signature.now in
    let m = structure_of universe c.args.truths.now in
    let env = drop c.args.start c.args.scratch.now in
    let f = formula_tree c.args.scope.now in
    let s = extent_at universe c.args.sort in
    let h : c.turn_holds.result ≡ truth_in_turn universe m env f false (at_turn s c.loop-turn.turn) = rw (← c.loop-turn.invariant.kept) c.turn_holds.ensures.answer in
    let within : c.loop-turn.turn < turns s = omega (arith, c.turn_count-turn-end.ensures.count, c.loop-turn-test.true) in
    let e = any_from_step universe m env f s c.loop-turn.turn c.turn_holds.result within h in
    let stays = ap (λ b. b || any_from universe m env f s (c.loop-turn.turn + 1)) c.if-turn_holds.false in
    let P : List ℤ → Type 0 = λ x. AtEachValue s (λ v. IsReadable c.args.signature.now (v ∷ x) f) in
    record {
      each = subst P (sym c.turn_holds.ensures.kept) c.loop-turn.invariant.each;
      kept = c.turn_holds.ensures.kept ∙ c.loop-turn.invariant.kept;
      rest = sym (e ∙ stays) ∙ c.loop-turn.invariant.rest;
    }

pub any_value_holds-returns-then-turn_holds-clause-answer : goal.any_value_holds-returns-then-turn_holds-clause-answer
any_value_holds-returns-then-turn_holds-clause-answer t c =
    let universe = universe_of c.args.signature.now in
    let m = structure_of universe c.args.truths.now in
    let env = drop c.args.start c.args.scratch.now in
    let f = formula_tree c.args.scope.now in
    let s = extent_at universe c.args.sort in
    let h : c.turn_holds.result ≡ truth_in_turn universe m env f false (at_turn s c.loop-turn.turn) = rw (← c.loop-turn.invariant.kept) c.turn_holds.ensures.answer in
    let within : c.loop-turn.turn < turns s = omega (arith, c.turn_count-turn-end.ensures.count, c.loop-turn-test.true) in
    let e = any_from_step universe m env f s c.loop-turn.turn c.turn_holds.result within h in
    let stops = ap (λ b. b || any_from universe m env f s (c.loop-turn.turn + 1)) c.if-turn_holds.true in
    sym (e ∙ stops) ∙ (c.loop-turn.invariant.rest ∙ any_from_start universe m env f c.args.sort)

pub truth_at-returns-in-ForAll-clause-answer : goal.truth_at-returns-in-ForAll-clause-answer
truth_at-returns-in-ForAll-clause-answer t c =
    let universe = universe_of c.args.signature.now in
    let m = structure_of universe c.args.truths.now in
    let env = drop c.args.start c.args.scratch.now in
    let is : formula_tree c.args.f.now ≡ tree.for_all c.in-ForAll.sort (formula_tree c.in-ForAll.scope.value) = ap formula_tree c.in-ForAll.is ∙ formula_tree-ForAll c.in-ForAll.sort c.in-ForAll.scope in
    let P : Formula → Type 0 = λ g. c.all_values_hold.result ≡ list_all (λ v. truth universe m (v ∷ env) (formula_tree g)) (kept_values universe env c.in-ForAll.sort (formula_tree g)) in
    rw is (subst P c.deref-in-ForAll.ensures c.all_values_hold.ensures.answer)

pub truth_at-returns-in-Exists-clause-answer : goal.truth_at-returns-in-Exists-clause-answer
truth_at-returns-in-Exists-clause-answer t c =
    let universe = universe_of c.args.signature.now in
    let m = structure_of universe c.args.truths.now in
    let env = drop c.args.start c.args.scratch.now in
    let is : formula_tree c.args.f.now ≡ tree.exists c.in-Exists.sort (formula_tree c.in-Exists.scope.value) = ap formula_tree c.in-Exists.is ∙ formula_tree-Exists c.in-Exists.sort c.in-Exists.scope in
    let P : Formula → Type 0 = λ g. c.any_value_holds.result ≡ list_any (λ v. truth universe m (v ∷ env) (formula_tree g)) (kept_values universe env c.in-Exists.sort (formula_tree g)) in
    rw is (subst P c.deref-in-Exists.ensures c.any_value_holds.ensures.answer)
