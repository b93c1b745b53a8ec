-- The trees of formulas whose weights are products.
use Rattle.std.proofs.Common.{◌≡◌, ℕ, Box, Global, rules}
use Rattle.ec_logic.specs.Tree as tree
use Rattle.ec_theory.specs.declared.formula.Formula.{Formula, Implies, ForAll, Exists, the_lemmas}
use Rattle.ec_theory.specs.View.{formula_tree}

pub formula_tree-Implies : (g h : Box Formula Global) → formula_tree (Implies g h) ≡ tree.implies (formula_tree g.value) (formula_tree h.value)
formula_tree-Implies g h = search (rules, the_lemmas)

pub formula_tree-ForAll : (sort : ℕ) (scope : Box Formula Global) → formula_tree (ForAll sort scope) ≡ tree.for_all sort (formula_tree scope.value)
formula_tree-ForAll sort scope = search (rules, the_lemmas)

pub formula_tree-Exists : (sort : ℕ) (scope : Box Formula Global) → formula_tree (Exists sort scope) ≡ tree.exists sort (formula_tree scope.value)
formula_tree-Exists sort scope = search (rules, the_lemmas)
