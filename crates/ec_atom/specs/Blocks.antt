-- The tuples of some symbols, numbered one symbol after the other, by tables of strides.
use Rattle.std.specs.Prelude.{ℕ, ◌≡◌, ◌+◌, ◌<◌, ◌^◌, min, ℤ, List, [], ◌∷◌, length, map, Option, option_map, slice_get, Some}
use Rattle.std.specs.List.{range_with_len}
use Rattle.ec_logic.specs.Universe.{Universe, row_of, tuples, tuple_at, tuple_rank, before, symbol_at}
use Rattle.ec_theory.specs.Values.{numbers_of}
use Rattle.ec_atom.specs.declared.blocks.Argument.{Argument}
use Rattle.ec_atom.specs.declared.blocks.Blocks.{Blocks}
use Rattle.ec_atom.specs.declared.ground.GroundTerm.{GroundTerm}
use Rattle.ec_atom.specs.declared.table.Values.{Values}
use Rattle.ec_atom.specs.Table.{extent_of_values, IsTable}

-- ---- the sorts that tables are of

-- the universe whose sorts have the values of these tables
abbrev pub universe_in : List Values → Universe
universe_in tables = record { extents = map extent_of_values tables; events = []; fluents = []; predicates = [] }

abbrev pub AreSound : List Values → Type 0
AreSound tables = (s : ℕ) (values : Values) → slice_get tables s ≡ Some values → IsTable values

-- ---- the arguments of symbols

abbrev pub sorts_of : List Argument → List ℕ
sorts_of row = map (λ (argument : Argument). argument.sort) row

-- each stride is the number of tuples of the arguments that follow, or 2^62 where that is greater
abbrev pub IsRow : Universe → List Argument → Type 0
IsRow universe [] = Unit {0}
IsRow universe (argument ∷ row) = (argument.stride ≡ min (tuples universe (sorts_of row)) (2 ^ 62)) × IsRow universe row

-- the arguments of these sorts, each with its stride
abbrev pub with_strides : Universe → List ℕ → List Argument
with_strides universe [] = []
with_strides universe (s ∷ ss) = record { sort = s; stride = min (tuples universe ss) (2 ^ 62) } ∷ with_strides universe ss

abbrev pub argument_rows : Blocks → List (List Argument)
argument_rows blocks = map (λ row. row.items) blocks.rows.items

abbrev pub rows_in : Blocks → List (List ℕ)
rows_in blocks = map sorts_of (argument_rows blocks)

-- how many tuples stand before those of each symbol, and in all
abbrev pub firsts_of : Universe → List (List ℕ) → List ℕ
firsts_of universe rows = map (before universe rows) (range_with_len 0 (length rows + 1))

pub record AreBlocks (universe : Universe) (blocks : Blocks) : Type 0 where
  pub firsts : blocks.firsts.items ≡ firsts_of universe (rows_in blocks)
  pub few : before universe (rows_in blocks) (length (rows_in blocks)) < 2 ^ 62
  pub each : (k : ℕ) (row : List Argument) → slice_get (argument_rows blocks) k ≡ Some row → IsRow universe row

-- the blocks of symbols with these argument sorts
pub record AreBlocksOf (universe : Universe) (rows : List (List ℕ)) (blocks : Blocks) : Type 0 where
  pub rows_are : rows_in blocks ≡ rows
  pub blocks_are : AreBlocks universe blocks

-- ---- symbols with their arguments

-- a symbol applied to values
pub record Application : Type 0 where
  pub symbol : ℕ
  pub args : List ℤ

-- the number of an application, if each value is in its domain
abbrev pub number_in : Universe → List (List ℕ) → ℕ → List ℤ → Option ℕ
number_in universe rows symbol vs = option_map (λ k. before universe rows symbol + k) (tuple_rank universe (row_of rows symbol) vs)

-- the application with a number
abbrev pub application_at : Universe → List (List ℕ) → ℕ → Application
application_at universe rows k = of_symbol (symbol_at universe rows k)
  where
    of_symbol : ℕ × ℕ → Application
    of_symbol found = record { symbol = found.0; args = tuple_at universe (row_of rows found.0) found.1 }

abbrev pub application : GroundTerm → Application
application term = record { symbol = term.symbol; args = numbers_of term.args.items }
