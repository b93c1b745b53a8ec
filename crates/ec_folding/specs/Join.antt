-- The two ways to join trees. A sign says which is meant: true for conj, false for disj.
use Rattle.std.specs.Prelude.{Bool, true, false, not, List, [], ◌∷◌, ◌++◌, filter, if◌then◌else◌}
use Rattle.std.specs.List.{list_any}
use Rattle.ec_folding.specs.Tree.{Tree, always, never, all_of, any_of, Trees, as_trees, as_list}

-- the constant of a truth
abbrev pub constant : Bool → Tree
constant true = always
constant false = never

-- whether a tree is that constant
abbrev pub is_constant : Bool → Tree → Bool
is_constant true always = true
is_constant false never = true
is_constant _ _ = false

-- And of trees, or Or of them
abbrev pub node : Bool → Trees → Tree
node true ts = all_of ts
node false ts = any_of ts

-- the parts of an And, or of an Or; any other tree is its own only part
abbrev pub parts_of : Bool → Tree → List Tree
parts_of true (all_of ts) = as_list ts
parts_of false (any_of ts) = as_list ts
parts_of _ t = t ∷ []

-- trees, with the parts of each And, or of each Or, in its place
abbrev pub opened : Bool → List Tree → List Tree
opened sign [] = []
opened sign (t ∷ ts) = parts_of sign t ++ opened sign ts

-- with no part the constant, with one part that part, with more And or Or of them
abbrev pub closed : Bool → List Tree → Tree
closed sign [] = constant sign
closed sign (t ∷ []) = t
closed sign (t ∷ u ∷ ts) = node sign (as_trees (t ∷ u ∷ ts))

-- the constant that decides a join, where an opened part is it; else what the opened parts come to without the constant that changes nothing
abbrev pub join : Bool → List Tree → Tree
join sign ts = if list_any (is_constant (not sign)) (opened sign ts) then constant (not sign) else closed sign (filter (λ t. not (is_constant sign t)) (opened sign ts))

-- the tree that says that all of these hold
abbrev pub conj : List Tree → Tree
conj ts = join true ts

-- the tree that says that one of these holds
abbrev pub disj : List Tree → Tree
disj ts = join false ts
