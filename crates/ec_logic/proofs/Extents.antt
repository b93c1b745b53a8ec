-- The extents of a signature's sorts.
use Rattle.std.proofs.Common.{◌≡◌, ℕ, suc, ◌<◌, ◌≤◌, max, Bool, true, false, ◌&&◌, if◌then◌else◌, int_le, int_lt, List, [], ◌∷◌, length, map, ℤ, pos, negsuc, ◌+ℤ◌, ◌≤ℤ◌, neg_ℤ, nat_abs, Option, Some, None, refl, ap, arith, unwrap_or, slice_get, ◌∙◌}
use Rattle.std.proofs.lemmas.Int.{ints}
use Rattle.std.proofs.lemmas.Bool.Decides.{nat_tests}
use Rattle.std.proofs.lemmas.Option.{unwrap_or-slice_get, slice_get_within}
use Rattle.std.proofs.lemmas.List.FromFn.{get_or-map-range_with_len, length-map-range_with_len}
use Rattle.std.specs.List.{range_with_len}
use Rattle.ec_logic.specs.Signature.{Signature, Kind, plain, integer, event_kind, fluent_kind, SortRow, SymbolRow}
use Rattle.ec_logic.specs.Extent.{numbers, rank, natural}
use Rattle.ec_logic.specs.Turns.{IsValueOf}
use Rattle.ec_logic.specs.Universe.{no_values, extent_at, extent_of, extent_of_range, universe_of, ground_terms, argument_sorts}
use Rattle.ec_logic.specs.Valid.{row_passes, row_range, range_of, is_integer_sort, kind_is_integer}
use Rattle.ec_logic.specs.Bound.{greater_end}

-- how many ground events and fluents there are
abbrev pub ground_events : Signature → ℕ
ground_events signature = ground_terms signature (argument_sorts signature.events)

abbrev pub ground_fluents : Signature → ℕ
ground_fluents signature = ground_terms signature (argument_sorts signature.fluents)

pub extent_of_sort : (signature : Signature) (s : ℕ) → s < length signature.sorts → extent_at (universe_of signature) s ≡ extent_of signature (ground_events signature) (ground_fluents signature) s
extent_of_sort signature s low =
    unwrap_or-slice_get (map (extent_of signature (ground_events signature) (ground_fluents signature)) (range_with_len 0 (length signature.sorts))) s no_values
    ∙ get_or-map-range_with_len (extent_of signature (ground_events signature) (ground_fluents signature)) 0 (length signature.sorts) s s no_values low (omega arith)

pub extents_length : (signature : Signature) → length (universe_of signature).extents ≡ length signature.sorts
extents_length signature = length-map-range_with_len (extent_of signature (ground_events signature) (ground_fluents signature)) 0 (length signature.sorts)

pub arguments_length : (rows : List SymbolRow) → length (argument_sorts rows) ≡ length rows
arguments_length [] = refl
arguments_length (row ∷ rows) = ap suc (arguments_length rows)

module _ (signature : Signature) (s : ℕ) where
  by_kind : (row : SortRow) (kind : Kind) → slice_get signature.sorts s ≡ Some row → row.kind ≡ kind → kind_is_integer kind ≡ true → (e f : ℕ) → extent_of signature e f s ≡ extent_of_range row.range
  by_kind row plain found k h e f = cc
  by_kind row integer found k h e f = rw (found, k) refl
  by_kind row event_kind found k h e f = cc
  by_kind row fluent_kind found k h e f = cc

  by_row : (o : Option SortRow) → slice_get signature.sorts s ≡ o → row_passes (λ row. kind_is_integer row.kind) o ≡ true → extent_at (universe_of signature) s ≡ extent_of_range (row_range o)
  by_row None found h = cc
  by_row (Some row) found h = extent_of_sort signature s (slice_get_within signature.sorts s row found) ∙ by_kind row row.kind found refl h (ground_events signature) (ground_fluents signature)

  -- a sort of whole numbers has those of its range
  pub extent_integer : is_integer_sort signature s ≡ true → extent_at (universe_of signature) s ≡ extent_of_range (range_of signature s)
  extent_integer h = by_row (slice_get signature.sorts s) refl h

between : (low high v : ℤ) → low ≤ℤ v → v ≤ℤ high → nat_abs v ≤ max (nat_abs low) (nat_abs high)
between low high v l h = omega (arith, ints, l, h)

-- a value of a range is within its greater end
pub range_value_within : (range : Option (ℤ × ℤ)) (v : ℤ) → IsValueOf (extent_of_range range) v → nat_abs v ≤ greater_end range
range_value_within None v h = absurd (no_place h.0 h.1)
  where
    no_place : (k : ℕ) → rank (extent_of_range None) v ≡ Some k → ⊥
    no_place k e = grind (arith, ints, nat_tests)
range_value_within (Some (low, high)) v h = by_size (high +ℤ neg_ℤ low +ℤ pos 1) refl h.0 h.1
  where
    by_size : (d : ℤ) → high +ℤ neg_ℤ low +ℤ pos 1 ≡ d → (k : ℕ) → rank (numbers low (unwrap_or (natural d) 0)) v ≡ Some k → nat_abs v ≤ max (nat_abs low) (nat_abs high)
    by_size (pos n) e k h = by_test (int_le low v && int_lt v (low +ℤ pos n)) refl h
      where
        by_test : (b : Bool) → (int_le low v && int_lt v (low +ℤ pos n)) ≡ b → (if b then natural (v +ℤ neg_ℤ low) else None) ≡ Some k → nat_abs v ≤ max (nat_abs low) (nat_abs high)
        by_test true t r = grind (arith, ints, nat_tests)
        by_test false t r = cc
    by_size (negsuc n) e k h = by_test (int_le low v && int_lt v (low +ℤ pos 0)) refl h
      where
        by_test : (b : Bool) → (int_le low v && int_lt v (low +ℤ pos 0)) ≡ b → (if b then natural (v +ℤ neg_ℤ low) else None) ≡ Some k → nat_abs v ≤ max (nat_abs low) (nat_abs high)
        by_test true t r = absurd (grind (arith, ints, nat_tests))
        by_test false t r = cc
