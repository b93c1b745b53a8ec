-- How much a book declares.
use Rattle.std.specs.Prelude.{ℕ, ◌+◌, List, [], ◌∷◌, length}
use Rattle.ec_syntax.specs.Written as w
use Rattle.ec_names.specs.Names.{placed_content}

-- shapes and their argument sorts
abbrev pub shapes_count : List w.Shape → ℕ
shapes_count [] = 0
shapes_count (shape ∷ shapes) = 1 + length shape.sorts + shapes_count shapes

-- the names that a statement declares and the argument sorts of these names
abbrev pub declared_count : w.Content → ℕ
declared_count (w.sorts items) = length items
declared_count (w.constants sort names) = length names
declared_count (w.events shapes) = shapes_count shapes
declared_count (w.fluents shapes) = shapes_count shapes
declared_count (w.predicates shapes) = shapes_count shapes
declared_count _ = 0

-- the statements, the names that these declare and the argument sorts of these names
abbrev pub things : List w.Placed → ℕ
things [] = 0
things (placed ∷ statements) = 1 + declared_count (placed_content placed) + things statements
