-- What can be tested before effects are filled: what speaks of no effect.
use Rattle.std.specs.Prelude.{ℕ, ◌==◌, Bool, not, List, map, filter}
use Rattle.std.specs.Borrow.{Bor}
use Rattle.std.specs.List.{list_any}
use Rattle.ec_logic.specs.Tree as tree
use Rattle.ec_logic.specs.ClauseTree.{only_has}
use Rattle.ec_logic.specs.ValidTheory.{effect_predicates}
use Rattle.ec_theory.specs.declared.formula.Formula.{Formula}
use Rattle.ec_theory.specs.View.{formula_tree}

-- whether a predicate is Initiates, Terminates or Releases
abbrev pub is_effect : ℕ → Bool
is_effect p = list_any (λ q. q == p) effect_predicates

abbrev pub is_no_effect : ℕ → Bool
is_no_effect p = not (is_effect p)

-- whether none of these occurs in a formula
abbrev pub speaks_of_no_effect : tree.Formula → Bool
speaks_of_no_effect f = only_has is_no_effect f

-- those of these formulas that speak of no effect, in their order
abbrev pub early_of : List tree.Formula → List tree.Formula
early_of fs = filter speaks_of_no_effect fs

abbrev pub tree_behind : Bor Formula → tree.Formula
tree_behind f = formula_tree f.now

abbrev pub trees_behind : List (Bor Formula) → List tree.Formula
trees_behind fs = map tree_behind fs
