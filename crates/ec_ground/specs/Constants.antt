-- Which atoms are constants, by their trees.
use Rattle.std.specs.Prelude.{Bool, true, false, List, map, Option, Some, None, option_map}
use Rattle.ec_folding.specs.Tree.{Tree, always, never}
use Rattle.ec_prop.specs.declared.tree.Prop.{Prop}
use Rattle.ec_prop.specs.Prop.{tree_of}

-- the constant that a tree is, if there is a tree and it is one
abbrev pub constant_in : Option Tree → Option Bool
constant_in (Some always) = Some true
constant_in (Some never) = Some false
constant_in tree = None

-- the constants that the trees of atoms are
abbrev pub constants_of : List (Option Prop) → List (Option Bool)
constants_of scopes = map (λ scope. constant_in (option_map tree_of scope)) scopes
