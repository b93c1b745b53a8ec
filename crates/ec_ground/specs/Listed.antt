-- The lists of a grounded theory, read off tables that have a place for each atom.
use Rattle.std.specs.Prelude.{ℕ, Bool, List, [], ◌∷◌, length, Option, Some, None, option_map, slice_index_or}
use Rattle.std.specs.List.{flat_map, range_with_len}
use Rattle.std.specs.Option.{option_or}
use Rattle.ec_folding.specs.Tree.{Tree}
use Rattle.ec_folding.specs.Definition.{Definition}
use Rattle.ec_prop.specs.declared.tree.Prop.{Prop}
use Rattle.ec_prop.specs.Prop.{tree_of}

-- an atom that isn't known to be a constant has a variable
abbrev pub variable_if : Option Bool → ℕ → List ℕ
variable_if None k = k ∷ []
variable_if (Some b) k = []

abbrev pub listed_variables : List (Option Bool) → List ℕ
listed_variables known = flat_map (λ k. variable_if (slice_index_or known k None) k) (range_with_len 0 (length known))

-- the tree of an atom, from the table of the effect atoms or else from that of the others
abbrev pub scope_at : List (Option Prop) → List (Option Prop) → ℕ → Option Tree
scope_at effects others k = option_map tree_of (option_or (slice_index_or effects k None) (slice_index_or others k None))

-- the definition of an atom with a variable and a tree
abbrev pub definition_if : Option Bool → Option Tree → ℕ → List Definition
definition_if None (Some scope) k = record { atom = k; scope = scope } ∷ []
definition_if constant tree k = []

abbrev pub listed_definitions : List (Option Bool) → List (Option Prop) → List (Option Prop) → List Definition
listed_definitions known effects others = flat_map (λ k. definition_if (slice_index_or known k None) (scope_at effects others k) k) (range_with_len 0 (length known))
