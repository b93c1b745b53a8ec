-- The definitions of a group's predicates, as trees, and the places of arguments.
use Rattle.std.specs.Prelude.{ℕ, List, [], Option, Some, None}
use Rattle.ec_logic.specs.Universe.{Universe}
use Rattle.ec_logic.specs.Tree as tree
use Rattle.ec_theory.specs.View.{formula_tree}
use Rattle.ec_complete.specs.Completion.{place_ranges}
use Rattle.ec_complete.specs.declared.completion.Definition.{Definition}

abbrev pub scope_of : Definition → tree.Formula
scope_of definition = formula_tree definition.scope

-- that an argument, if it has a sort and is a place of the binder d binders out, is in range
abbrev pub ranges_with : Universe → ℕ → Option ℕ → tree.Term → List tree.Formula
ranges_with universe d None t = []
ranges_with universe d (Some s) t = place_ranges universe d s t
