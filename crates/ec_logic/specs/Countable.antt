-- Universes whose values, ground terms and atoms can be counted in 62 bits.
use Rattle.std.specs.Prelude.{ℕ, ◌<◌, ◌^◌, List, length}
use Rattle.ec_logic.specs.Extent.{size_of}
use Rattle.ec_logic.specs.Universe.{Universe, extent_at, row_of, tuples, before}

-- how many ground terms these symbols have
abbrev pub count_of_all : Universe → List (List ℕ) → ℕ
count_of_all universe rows = before universe rows (length rows)

pub record IsCountable (universe : Universe) : Type 0 where
  pub values : (s : ℕ) → size_of (extent_at universe s) < 2 ^ 62
  pub events : count_of_all universe universe.events < 2 ^ 62
  pub fluents : count_of_all universe universe.fluents < 2 ^ 62
  pub predicates : (p : ℕ) → tuples universe (row_of universe.predicates p) < 2 ^ 62
