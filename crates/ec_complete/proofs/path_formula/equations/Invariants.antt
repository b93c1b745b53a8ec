use Rattle.std.proofs.Common.{◌≡◌, ◌+◌, ◌++◌, map, drop}
use Rattle.ec_theory.specs.View.{formula_tree, term_trees}
use Rattle.ec_complete.specs.Completion.{count_of, equations}
use Rattle.ec_complete.proofs.path_formula.equations.Given as goal

abbrev pub invariant-loop-term : goal.invariant-loop-term
invariant-loop-term l = record {
  argument : l.argument ≡ l.binders + count_of (term_trees (drop l.term-index l.terms));
  rest : map formula_tree l.found.items ++ equations l.binders (term_trees (drop l.term-index l.terms)) ≡ equations l.binders (term_trees l.terms);
}
