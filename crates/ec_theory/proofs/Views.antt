-- Lists of terms and formulas and their trees.
use Rattle.std.proofs.Common.{◌≡◌, ℕ, List, [], ◌∷◌, map, refl, ap}
use Rattle.ec_logic.specs.Tree as tree
use Rattle.ec_logic.specs.TreeList.{terms_of, formulas_of}
use Rattle.ec_logic.specs.Shift.{shifted_term, shifted_terms, shifted, shifted_each}
use Rattle.ec_logic.specs.Substitute.{substituted_term, substituted_terms, substituted, substituted_each}
use Rattle.ec_theory.specs.declared.term.Term.{Term}
use Rattle.ec_theory.specs.declared.formula.Formula.{Formula}
use Rattle.ec_theory.specs.View.{term_tree, term_trees, formula_tree, formula_trees}

pub shifted_terms_of : (from by : ℕ) (ts : List Term) → shifted_terms from by (term_trees ts) ≡ terms_of (map (λ t. shifted_term from by (term_tree t)) ts)
shifted_terms_of from by [] = refl
shifted_terms_of from by (t ∷ ts) = ap (tree.term (shifted_term from by (term_tree t))) (shifted_terms_of from by ts)

pub shifted_each_of : (from by : ℕ) (fs : List Formula) → shifted_each from by (formula_trees fs) ≡ formulas_of (map (λ f. shifted from by (formula_tree f)) fs)
shifted_each_of from by [] = refl
shifted_each_of from by (f ∷ fs) = ap (tree.formula (shifted from by (formula_tree f))) (shifted_each_of from by fs)

pub substituted_terms_of : (at : ℕ) (t : tree.Term) (ts : List Term) → substituted_terms at t (term_trees ts) ≡ terms_of (map (λ u. substituted_term at t (term_tree u)) ts)
substituted_terms_of at t [] = refl
substituted_terms_of at t (u ∷ ts) = ap (tree.term (substituted_term at t (term_tree u))) (substituted_terms_of at t ts)

pub substituted_each_of : (at : ℕ) (t : tree.Term) (fs : List Formula) → substituted_each at t (formula_trees fs) ≡ formulas_of (map (λ f. substituted at t (formula_tree f)) fs)
substituted_each_of at t [] = refl
substituted_each_of at t (f ∷ fs) = ap (tree.formula (substituted at t (formula_tree f))) (substituted_each_of at t fs)
