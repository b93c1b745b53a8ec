-- The times of a narrative, one after the other.
use Rattle.std.proofs.Common.{◌≡◌, ℕ, zero, suc, ◌<◌, Bool, true, false, ◌&&◌, ◌||◌, if◌then◌else◌, drop, take-append-drop, ◌++◌, slice_get, Option, Some, None, unwrap_or, ℤ, pos, negsuc, ◌+ℤ◌, neg_ℤ, int_le, int_lt, map, refl, sym, ap, ◌∙◌, arith}
use Rattle.std.specs.List.{range_with_len}
use Rattle.std.specs.Ordering.{int_eq}
use Rattle.std.proofs.lemmas.Int.{ints}
use Rattle.std.proofs.lemmas.Bool.Decides.{nat_tests}
use Rattle.ec_logic.specs.Axiom.{first_time}
use Rattle.ec_logic.specs.BuiltIn.{built_in_sorts}
use Rattle.ec_logic.specs.Extent.{numbers, domain_of, rank, natural}
use Rattle.ec_logic.specs.Narrative.{before_time}
use Rattle.ec_logic.specs.Signature.{Signature, SortRow, integer_sort, time_sort}
use Rattle.ec_logic.specs.Turns.{IsValueOf}
use Rattle.ec_logic.specs.Universe.{Universe, universe_of, extent_at, extent_of_range, domain}
use Rattle.ec_logic.specs.Valid.{IsSignature, is_integer_sort, range_of, is_range, row_range}
use Rattle.ec_logic.proofs.AxiomSentences.{range_end}
use Rattle.ec_logic.proofs.Extents.{extent_integer, range_value_within}
use Rattle.ec_logic.proofs.Numbering.{rank-value_at}
use Rattle.ec_listing.proofs.Numerals.{IsSmall}

-- where a change may be told, the time isn't the first
pub not_first : (a b : Bool) → (a || b) ≡ false → a ≡ false
not_first true b h = cc
not_first false b h = refl

module _ (signature : Signature) (valid : IsSignature signature) where
  abbrev universe : Universe
  universe = universe_of signature

  first_sorts : signature.sorts ≡ built_in_sorts (range_of signature integer_sort) (range_of signature time_sort) (range_of signature 3) ++ drop 6 signature.sorts
  first_sorts = sym (take-append-drop 6 signature.sorts) ∙ ap (λ rows. rows ++ drop 6 signature.sorts) valid.built_in_first.sorts

  time_is_integer : is_integer_sort signature time_sort ≡ true
  time_is_integer = rw first_sorts refl

  time_extent : extent_at universe time_sort ≡ extent_of_range (range_of signature time_sort)
  time_extent = extent_integer signature time_sort time_is_integer

  first_is : (o : Option SortRow) → slice_get signature.sorts time_sort ≡ o → (n : ℕ) × (extent_of_range (row_range o) ≡ numbers (first_time signature) n)
  first_is None e = (0, rw e refl)
  first_is (Some row) e = by_range row.range refl
    where
      by_range : (r : Option (ℤ × ℤ)) → row.range ≡ r → (n : ℕ) × (extent_of_range r ≡ numbers (first_time signature) n)
      by_range None f = (0, rw (e, f) refl)
      by_range (Some (a, b)) f = (unwrap_or (natural (b +ℤ neg_ℤ a +ℤ pos 1)) 0, rw (e, f) refl)

  pub times_numbered : (n : ℕ) × (extent_at universe time_sort ≡ numbers (first_time signature) n)
  times_numbered = let there = first_is (slice_get signature.sorts time_sort) refl in (there.0, time_extent ∙ there.1)

  pub time_domain : domain universe time_sort ≡ map (λ k. first_time signature +ℤ pos k) (range_with_len 0 times_numbered.0)
  time_domain = ap domain_of times_numbered.1

  pub time_at : (k : ℕ) → k < times_numbered.0 → IsValueOf (extent_at universe time_sort) (first_time signature +ℤ pos k)
  time_at k h = (k, ap (λ e. rank e (first_time signature +ℤ pos k)) times_numbered.1 ∙ rank-value_at (numbers (first_time signature) times_numbered.0) k h)

  -- the place of a time
  pub time_place : (t : ℤ) → IsValueOf (extent_at universe time_sort) t → (k : ℕ) × (k < times_numbered.0) × (t ≡ first_time signature +ℤ pos k)
  time_place t h = of_numbers (first_time signature) times_numbered.0 (h.0, ap (λ e. rank e t) (sym times_numbered.1) ∙ h.1)
    where
      of_numbers : (least : ℤ) (n : ℕ) → IsValueOf (numbers least n) t → (k : ℕ) × (k < n) × (t ≡ least +ℤ pos k)
      of_numbers least n h = by_test (int_le least t && int_lt t (least +ℤ pos n)) refl h.1
        where
          by_place : (d : ℤ) → t +ℤ neg_ℤ least ≡ d → (int_le least t && int_lt t (least +ℤ pos n)) ≡ true → natural d ≡ Some h.0 → (k : ℕ) × (k < n) × (t ≡ least +ℤ pos k)
          by_place (pos k) e l g = (k, grind (arith, ints, nat_tests), omega (arith, ints, e))
          by_place (negsuc k) e l g = cc

          by_test : (b : Bool) → (int_le least t && int_lt t (least +ℤ pos n)) ≡ b → (if b then natural (t +ℤ neg_ℤ least) else None) ≡ Some h.0 → (k : ℕ) × (k < n) × (t ≡ least +ℤ pos k)
          by_test true e g = by_place (t +ℤ neg_ℤ least) refl e g
          by_test false e g = cc

  -- the time before one that isn't the first
  pub time_before : (t : ℤ) → IsValueOf (extent_at universe time_sort) t → int_eq t (first_time signature) ≡ false → IsValueOf (extent_at universe time_sort) (before_time t)
  time_before t h apart = let place = time_place t h in by_place place.0 place.1 place.2
    where
      by_place : (k : ℕ) → k < times_numbered.0 → t ≡ first_time signature +ℤ pos k → IsValueOf (extent_at universe time_sort) (before_time t)
      by_place zero l e = absurd (grind (arith, ints, e, apart))
      by_place (suc k) l e =
          let back : before_time t ≡ first_time signature +ℤ pos k = omega (arith, ints, e) in
          rw back (time_at k (omega (arith, l)))

  small_range : is_range (range_of signature time_sort) ≡ true
  small_range = by_row (slice_get signature.sorts time_sort) refl
    where
      by_row : (o : Option SortRow) → slice_get signature.sorts time_sort ≡ o → is_range (row_range o) ≡ true
      by_row None e = refl
      by_row (Some row) e = valid.small_ranges time_sort row e

  pub time_small : (t : ℤ) → IsValueOf (extent_at universe time_sort) t → IsSmall t
  time_small t h =
      let value : IsValueOf (extent_of_range (range_of signature time_sort)) t = (h.0, ap (λ e. rank e t) (sym time_extent) ∙ h.1) in
      let low = range_value_within (range_of signature time_sort) t value in
      let high = range_end (range_of signature time_sort) small_range in
      omega (arith, low, high)
