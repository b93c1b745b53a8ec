-- The bounds of a sort by its kind.
use Rattle.std.proofs.Common.{◌≡◌, ℕ, ◌≤◌, true, ℤ, pos, negsuc, neg_ℤ, ◌+ℤ◌, length, slice_get, unwrap_or, Option, Some, None, option_map, refl, sym, ap, ◌∙◌, arith}
use Rattle.std.proofs.lemmas.Int.{ints}
use Rattle.std.proofs.lemmas.Bool.Decides.{nat_tests}
use Rattle.std.proofs.lemmas.Option.{slice_get_within, slice_get_past}
use Rattle.ec_logic.specs.Signature.{Signature, SortRow, Kind, plain, integer, event_kind, fluent_kind}
use Rattle.ec_logic.specs.Extent.{numbers, members, natural}
use Rattle.ec_logic.specs.Universe.{extent_at, extent_of_range, is_constant_in, universe_of}
use Rattle.ec_logic.specs.Valid.{is_range}
use Rattle.ec_logic.proofs.Extents.{extent_of_sort, extents_length, ground_events, ground_fluents}
use Rattle.ec_complete.specs.Completion.{bounds}

pub no_sort : (signature : Signature) (s : ℕ) → length signature.sorts ≤ s → None ≡ bounds (extent_at (universe_of signature) s)
no_sort signature s h =
    let l = extents_length signature in
    let past : slice_get (universe_of signature).extents s ≡ None = slice_get_past (universe_of signature).extents s (omega arith) in
    rw past refl

module _ (signature : Signature) (s : ℕ) where
  abbrev kind_at : Option Kind
  kind_at = option_map (λ (row : SortRow). row.kind) (slice_get signature.sorts s)

  -- a fact of the row from its kind
  by_row : (kind : Kind) (P : Type 0) → kind_at ≡ Some kind → ((row : SortRow) → slice_get signature.sorts s ≡ Some row → row.kind ≡ kind → P) → P
  by_row kind P h go = cases (slice_get signature.sorts s) refl h
    where
      cases : (o : Option SortRow) → slice_get signature.sorts s ≡ o → option_map (λ (row : SortRow). row.kind) o ≡ Some kind → P
      cases None i k = cc
      cases (Some row) i k = let is : row.kind ≡ kind = cc in go row i is

  plain_extent : kind_at ≡ Some plain → extent_at (universe_of signature) s ≡ members (length signature.constants) (is_constant_in signature s)
  plain_extent h = by_row plain (extent_at (universe_of signature) s ≡ members (length signature.constants) (is_constant_in signature s)) h
      (λ row i k. extent_of_sort signature s (slice_get_within signature.sorts s row i) ∙ (rw (i, k) refl))

  integer_extent : (range : Option (ℤ × ℤ)) → kind_at ≡ Some integer → option_map (λ (row : SortRow). row.range) (slice_get signature.sorts s) ≡ Some range → extent_at (universe_of signature) s ≡ extent_of_range range
  integer_extent range h g = by_row integer (extent_at (universe_of signature) s ≡ extent_of_range range) h
      (λ row i k. extent_of_sort signature s (slice_get_within signature.sorts s row i) ∙ (rw (i, k) (ap extent_of_range (same row (rw i at g)))))
    where
      same : (row : SortRow) → option_map (λ (row : SortRow). row.range) (Some row) ≡ Some range → row.range ≡ range
      same row g = cc

  event_extent : kind_at ≡ Some event_kind → extent_at (universe_of signature) s ≡ members (ground_events signature) (λ k. true)
  event_extent h = by_row event_kind (extent_at (universe_of signature) s ≡ members (ground_events signature) (λ k. true)) h
      (λ row i k. extent_of_sort signature s (slice_get_within signature.sorts s row i) ∙ (rw (i, k) refl))

  fluent_extent : kind_at ≡ Some fluent_kind → extent_at (universe_of signature) s ≡ members (ground_fluents signature) (λ k. true)
  fluent_extent h = by_row fluent_kind (extent_at (universe_of signature) s ≡ members (ground_fluents signature) (λ k. true)) h
      (λ row i k. extent_of_sort signature s (slice_get_within signature.sorts s row i) ∙ (rw (i, k) refl))

  pub plain_bounds : kind_at ≡ Some plain → None ≡ bounds (extent_at (universe_of signature) s)
  plain_bounds h = rw (plain_extent h) refl

  pub event_bounds : kind_at ≡ Some event_kind → None ≡ bounds (extent_at (universe_of signature) s)
  event_bounds h = rw (event_extent h) refl

  pub fluent_bounds : kind_at ≡ Some fluent_kind → None ≡ bounds (extent_at (universe_of signature) s)
  fluent_bounds h = rw (fluent_extent h) refl

  pub integer_bounds : (range : Option (ℤ × ℤ)) (ends : ℤ × ℤ) → kind_at ≡ Some integer → option_map (λ (row : SortRow). row.range) (slice_get signature.sorts s) ≡ Some range → bounds (extent_of_range range) ≡ Some ends → Some ends ≡ bounds (extent_at (universe_of signature) s)
  integer_bounds range ends h g e = rw (integer_extent range h g) (sym e)

pub range_ends : (a b : ℤ) → is_range (Some (a, b)) ≡ true → bounds (extent_of_range (Some (a, b))) ≡ Some (a, b +ℤ pos 1)
range_ends a b h = cases (b +ℤ neg_ℤ a +ℤ pos 1) refl
  where
    same : (x y : ℤ) → x ≡ y → ◌≡◌ {A = Option (ℤ × ℤ)} (Some (a, x)) (Some (a, y))
    same x y e = ap (λ z. Some (a, z)) e

    cases : (d : ℤ) → b +ℤ neg_ℤ a +ℤ pos 1 ≡ d → bounds (numbers a (unwrap_or (natural d) 0)) ≡ Some (a, b +ℤ pos 1)
    cases (pos n) e = same (a +ℤ pos n) (b +ℤ pos 1) (omega (arith, ints, e))
    cases (negsuc n) e = absurd (grind (arith, ints, nat_tests))
