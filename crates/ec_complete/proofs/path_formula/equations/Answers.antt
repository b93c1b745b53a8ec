use Rattle.std.proofs.Common.{◌≡◌, ◌+◌, ◌-◌, ◌++◌, ◌∷◌, [], map, drop, arith, ap, sym, refl}
use Rattle.std.proofs.lemmas.List.{map-append}
use Rattle.ec_logic.specs.Tree as tree
use Rattle.ec_theory.specs.View.{formula_tree, term_tree, term_trees}
use Rattle.ec_complete.specs.Completion.{count_of, equations}
use Rattle.ec_complete.proofs.Views.{added, item_at, count_length, lowered_by_none}
use Rattle.ec_complete.proofs.path_formula.equations.Goals as goal

pub overflow_cast-argument : goal.overflow_cast-argument
overflow_cast-argument c = omega (arith, count_length c.args.terms.now, c.requires.terms)

pub overflow_add-argument : goal.overflow_add-argument
overflow_add-argument c = omega (arith, count_length c.args.terms.now, c.requires.terms, c.requires.binders)

pub loop-term-init : goal.loop-term-init
loop-term-init c = record {
  argument = ap (λ n. c.args.binders + n) (sym (count_length c.args.terms.now));
  rest = rw c.in_ok-found.ensures.items refl;
}

pub loop-term-preserved : goal.loop-term-preserved
loop-term-preserved c =
    let term = term_tree c.term-item.result in
    let rest-of = term_trees (drop (c.loop-term.term-index + 1) c.args.terms.now) in
    let before = map formula_tree c.loop-term.found.items in
    let here = tree.equal term (tree.variable (c.args.binders + count_of rest-of)) in
    let splits = item_at c.args.terms.now c.loop-term.term-index c.term-item.result c.loop-term-test.true c.term-item.is in
    let left = rw splits at c.loop-term.invariant.argument in
    let argument : c.loop-term.argument - 1 ≡ c.args.binders + count_of rest-of = omega (arith, left) in
    let made : formula_tree c.equal.result ≡ here = rw (c.equal.ensures, c.in_ok-lower.ensures, lowered_by_none term, c.variable.ensures, argument) refl in
    let pushed : map formula_tree c.push.new.self.items ≡ before ++ formula_tree c.equal.result ∷ [] = rw c.in_ok-push.ensures.items (map-append formula_tree c.loop-term.found.items (c.equal.result ∷ [])) in
    record {
      argument = argument;
      rest = added before (map formula_tree c.push.new.self.items) (here ∷ []) (equations c.args.binders rest-of) (equations c.args.binders (term_trees c.args.terms.now)) (rw made at pushed) (rw splits at c.loop-term.invariant.rest);
    }
