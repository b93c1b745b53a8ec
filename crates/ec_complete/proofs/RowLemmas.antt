-- The argument sorts of a symbol.
use Rattle.std.proofs.Common.{◌≡◌, ℕ, ◌≤◌, List, [], length, slice_get, Some, option_map, sym, refl, arith}
use Rattle.std.proofs.lemmas.Option.{slice_get-map, slice_get_past}
use Rattle.ec_logic.specs.Signature.{SymbolRow}
use Rattle.ec_logic.specs.Universe.{argument_sorts, row_of}
use Rattle.ec_logic.proofs.Extents.{arguments_length}

pub row_found : (rows : List SymbolRow) (k : ℕ) (ss : List ℕ) → option_map (λ (row : SymbolRow). row.sorts) (slice_get rows k) ≡ Some ss → ss ≡ row_of (argument_sorts rows) k
row_found rows k ss h = rw (slice_get-map (λ (row : SymbolRow). row.sorts) rows k, h) refl

past_row : (rows : List SymbolRow) (k : ℕ) → length rows ≤ k → row_of (argument_sorts rows) k ≡ []
past_row rows k h = let l = arguments_length rows in rw (slice_get_past (argument_sorts rows) k (omega arith)) refl

pub row_past : (rows : List SymbolRow) (k : ℕ) → length rows ≤ k → [] ≡ row_of (argument_sorts rows) k
row_past rows k h = sym (past_row rows k h)
