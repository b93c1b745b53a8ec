-- How many ground terms there are, where no argument is reified.
use Rattle.std.proofs.Common.{◌≡◌, ◌∙◌, ℕ, suc, ◌<◌, false, List, [], ◌∷◌, length, map, Option, None, Some, slice_get, refl, sym, ap, arith}
use Rattle.std.proofs.lemmas.Option.{unwrap_or-slice_get}
use Rattle.std.proofs.lemmas.List.FromFn.{get_or-map-range_with_len}
use Rattle.std.specs.List.{range_with_len}
use Rattle.ec_logic.specs.Signature.{Signature, Kind, plain, integer, event_kind, fluent_kind, SortRow, SymbolRow}
use Rattle.ec_logic.specs.Extent.{size_of}
use Rattle.ec_logic.specs.Universe.{no_values, universe_with, extent_at, extent_of, tuples, argument_sorts, before}
use Rattle.ec_logic.specs.Valid.{row_passes, is_reified_sort, kind_is_reified}

module _ (signature : Signature) (a b c d : ℕ) where
  with_extent : (x y s : ℕ) → s < length signature.sorts → extent_at (universe_with signature x y) s ≡ extent_of signature x y s
  with_extent x y s low =
      unwrap_or-slice_get (map (extent_of signature x y) (range_with_len 0 (length signature.sorts))) s no_values
      ∙ get_or-map-range_with_len (extent_of signature x y) 0 (length signature.sorts) s s no_values low (omega arith)

  same_extent : (s : ℕ) → is_reified_sort signature s ≡ false → extent_of signature a b s ≡ extent_of signature c d s
  same_extent s h = by_row (slice_get signature.sorts s) refl h
    where
      by_kind : (row : SortRow) (kind : Kind) → slice_get signature.sorts s ≡ Some row → row.kind ≡ kind → kind_is_reified kind ≡ false → extent_of signature a b s ≡ extent_of signature c d s
      by_kind row plain found k r = rw (found, k) refl
      by_kind row integer found k r = rw (found, k) refl
      by_kind row event_kind found k r = cc
      by_kind row fluent_kind found k r = cc

      by_row : (o : Option SortRow) → slice_get signature.sorts s ≡ o → row_passes (λ row. kind_is_reified row.kind) o ≡ false → extent_of signature a b s ≡ extent_of signature c d s
      by_row None found r = rw found refl
      by_row (Some row) found r = by_kind row row.kind found refl r

  same_tuples : (ss : List ℕ) → ((i s : ℕ) → slice_get ss i ≡ Some s → (s < length signature.sorts) × (is_reified_sort signature s ≡ false)) → tuples (universe_with signature a b) ss ≡ tuples (universe_with signature c d) ss
  same_tuples [] h = refl
  same_tuples (s ∷ ss) h =
      let here = h 0 s refl in
      let size : size_of (extent_at (universe_with signature a b) s) ≡ size_of (extent_at (universe_with signature c d) s) = ap size_of (with_extent a b s here.0 ∙ (same_extent s here.1 ∙ sym (with_extent c d s here.0))) in
      rw (size, same_tuples ss (λ i r e. h (suc i) r e)) refl

  pub same_count : (rows : List SymbolRow) → ((k : ℕ) (row : SymbolRow) → slice_get rows k ≡ Some row → (i s : ℕ) → slice_get row.sorts i ≡ Some s → (s < length signature.sorts) × (is_reified_sort signature s ≡ false))
      → before (universe_with signature a b) (argument_sorts rows) (length (argument_sorts rows)) ≡ before (universe_with signature c d) (argument_sorts rows) (length (argument_sorts rows))
  same_count [] h = refl
  same_count (row ∷ rows) h = rw (same_tuples row.sorts (h 0 row refl), same_count rows (λ k r e. h (suc k) r e)) refl
