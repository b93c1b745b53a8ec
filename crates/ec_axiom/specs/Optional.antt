-- An axiom or none as a list.
use Rattle.std.specs.Prelude.{List, [], ◌∷◌, Option, Some, None}
use Rattle.ec_logic.specs.Tree as tree
use Rattle.ec_theory.specs.declared.formula.Formula.{Formula}
use Rattle.ec_theory.specs.View.{formula_tree}

-- the tree of the formula that is there
abbrev pub trees_of : Option Formula → List tree.Formula
trees_of None = []
trees_of (Some f) = formula_tree f ∷ []
