-- The symbols whose applications are numbered, in the order of the numbers.
use Rattle.std.specs.Prelude.{ℕ, List, map}
use Rattle.ec_logic.specs.Universe.{Universe, row_of}
use Rattle.ec_logic.specs.Atom.{predicates_in_order}
use Rattle.ec_atom.specs.declared.kinds.Symbols.{Symbols}
use Rattle.ec_atom.specs.declared.kinds.Symbols.TheVariants.{Events, Fluents, Predicates}

-- the argument sorts of each symbol
abbrev pub rows_of : Universe → Symbols → List (List ℕ)
rows_of universe Events = universe.events
rows_of universe Fluents = universe.fluents
rows_of universe Predicates = map (row_of universe.predicates) (predicates_in_order universe)
