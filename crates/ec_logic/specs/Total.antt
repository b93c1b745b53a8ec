-- How many atoms some predicates have.
use Rattle.std.specs.Prelude.{ℕ, ◌+◌, List, [], ◌∷◌}
use Rattle.ec_logic.specs.Universe.{Universe}
use Rattle.ec_logic.specs.Atom.{tuples_of}

abbrev pub total : Universe → List ℕ → ℕ
total universe [] = 0
total universe (q ∷ qs) = tuples_of universe q + total universe qs
