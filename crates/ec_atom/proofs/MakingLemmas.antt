-- Tables made constant by constant, and the extents that they are of.
use Rattle.std.proofs.Common.{◌≡◌, ℕ, zero, suc, ◌+◌, ◌<◌, ◌≤◌, ◌^◌, ◌==◌, min, Bool, true, false, ℤ, List, [], ◌∷◌, ◌++◌, length, map, filter, slice_get, Option, Some, None, option_map, ◌⊎◌, inl, inr, refl, sym, ap, ◌∙◌, arith}
use Rattle.std.specs.List.{range_with_len}
use Rattle.std.proofs.lemmas.List.{append-nil}
use Rattle.std.proofs.lemmas.List.Elements.{filter-append}
use Rattle.std.proofs.lemmas.List.FromFn.{map-range_with_len_more}
use Rattle.std.proofs.lemmas.Option.{slice_get_past}
use Rattle.std.proofs.lemmas.Bool.Decides.{nat_tests}
use Rattle.ec_logic.specs.Signature.{Signature, SortRow, Kind, plain, integer, event_kind, fluent_kind, event_sort, fluent_sort}
use Rattle.ec_logic.specs.Extent.{members, passing, size_of}
use Rattle.ec_logic.specs.Universe.{universe_of, extent_at, extent_of_range, is_constant_in}
use Rattle.ec_logic.specs.Valid.{IsSignature, kind_is_event, kind_is_fluent}
use Rattle.ec_logic.proofs.Tuples.{passing_sum}
use Rattle.ec_logic.proofs.Extents.{extent_of_sort, ground_events, ground_fluents}
use Rattle.ec_theory.proofs.TableLemmas.{extent_plain, extent_integer, extent_event, extent_fluent}
use Rattle.ec_atom.specs.Listing.{has_place, place_if, ListsConstants}
use Rattle.ec_atom.specs.Numbering.{IsTableOf}
use Rattle.ec_atom.specs.declared.table.Values.{Values}
use Rattle.ec_atom.proofs.PlaceLemmas.{test_is, size_of_places}

-- ---- one constant more

module _ (test : ℕ → Bool) (k : ℕ) where
  one_more : passing test 0 (k + 1) ≡ passing test 0 k + passing test k 1
  one_more = let z : 0 + k ≡ k = omega arith in rw z at (passing_sum test 0 k 1)

  pub count_no : test k ≡ false → passing test 0 (k + 1) ≡ passing test 0 k
  count_no h = let last : passing test k 1 ≡ 0 = rw h refl in omega (arith, one_more, last)

  pub count_yes : test k ≡ true → passing test 0 (k + 1) ≡ passing test 0 k + 1
  count_yes h = let last : passing test k 1 ≡ 1 = rw h refl in omega (arith, one_more, last)

  pub places_no : test k ≡ false → map (place_if test) (range_with_len 0 (k + 1)) ≡ map (place_if test) (range_with_len 0 k) ++ None ∷ []
  places_no h = let last : place_if test k ≡ None = rw h refl in map-range_with_len_more (place_if test) 0 k k (omega arith) ∙ ap (λ p. map (place_if test) (range_with_len 0 k) ++ p ∷ []) last

  pub places_yes : test k ≡ true → map (place_if test) (range_with_len 0 (k + 1)) ≡ map (place_if test) (range_with_len 0 k) ++ Some (passing test 0 k) ∷ []
  places_yes h = let last : place_if test k ≡ Some (passing test 0 k) = rw h refl in map-range_with_len_more (place_if test) 0 k k (omega arith) ∙ ap (λ p. map (place_if test) (range_with_len 0 k) ++ p ∷ []) last

  same : (xs : List ℕ) → map (λ x. x) xs ≡ xs
  same [] = refl
  same (x ∷ xs) = ap (λ ys. x ∷ ys) (same xs)

  range_more : range_with_len 0 (k + 1) ≡ range_with_len 0 k ++ k ∷ []
  range_more = sym (same (range_with_len 0 (k + 1))) ∙ (map-range_with_len_more (λ x. x) 0 k k (omega arith) ∙ ap (λ xs. xs ++ k ∷ []) (same (range_with_len 0 k)))

  pub constants_no : test k ≡ false → filter test (range_with_len 0 (k + 1)) ≡ filter test (range_with_len 0 k)
  constants_no h =
      let last : filter test (k ∷ []) ≡ [] = rw h refl in
      ap (filter test) range_more ∙ (filter-append test (range_with_len 0 k) (k ∷ []) ∙ (ap (λ xs. filter test (range_with_len 0 k) ++ xs) last ∙ append-nil (filter test (range_with_len 0 k))))

  pub constants_yes : test k ≡ true → filter test (range_with_len 0 (k + 1)) ≡ filter test (range_with_len 0 k) ++ k ∷ []
  constants_yes h =
      let last : filter test (k ∷ []) ≡ k ∷ [] = rw h refl in
      ap (filter test) range_more ∙ (filter-append test (range_with_len 0 k) (k ∷ []) ∙ ap (λ xs. filter test (range_with_len 0 k) ++ xs) last)

-- ---- the whole table

length_placed : (test : ℕ → Bool) (from n : ℕ) → length (map (place_if test) (range_with_len from n)) ≡ n
length_placed test from zero = refl
length_placed test from (suc n) = ap suc (length_placed test (from + 1) n)

module _ (test : ℕ → Bool) (places : List (Option ℕ)) (constants : List ℕ) (n : ℕ) (few : n < 2 ^ 31) (e : places ≡ map (place_if test) (range_with_len 0 n)) (g : constants ≡ filter test (range_with_len 0 n)) (past : (k : ℕ) → n ≤ k → test k ≡ false) where
  count : length places ≡ n
  count = ap length e ∙ length_placed test 0 n

  pub made_extent : members (length places) (has_place places) ≡ members n test
  made_extent = rw (test_is test places n e past, count) refl

  pub made_lists : ListsConstants places constants
  made_lists = record {
    few = rw count few;
    places_are = rw (test_is test places n e past, count) e;
    constants_are = rw (test_is test places n e past, count) g;
  }

pub no_constant : (signature : Signature) (s k : ℕ) → length signature.constants ≤ k → is_constant_in signature s k ≡ false
no_constant signature s k h = rw (slice_get_past signature.constants k h) refl

-- ---- the extent of a sort by its kind

module _ (signature : Signature) (s : ℕ) (low : s < length signature.sorts) where
  abbrev kind_at : Option Kind
  kind_at = option_map (λ (row : SortRow). row.kind) (slice_get signature.sorts s)

  by_row : (kind : Kind) (P : Type 0) → kind_at ≡ Some kind → ((row : SortRow) → slice_get signature.sorts s ≡ Some row → row.kind ≡ kind → P) → P
  by_row kind P h go = cases (slice_get signature.sorts s) refl h
    where
      cases : (o : Option SortRow) → slice_get signature.sorts s ≡ o → option_map (λ (row : SortRow). row.kind) o ≡ Some kind → P
      cases None i k = cc
      cases (Some row) i k = let is : row.kind ≡ kind = cc in go row i is

  pub plain_extent : kind_at ≡ Some plain → extent_at (universe_of signature) s ≡ members (length signature.constants) (is_constant_in signature s)
  plain_extent h = by_row plain (extent_at (universe_of signature) s ≡ members (length signature.constants) (is_constant_in signature s)) h
      (λ row i k. extent_of_sort signature s low ∙ extent_plain signature (ground_events signature) (ground_fluents signature) s row i k)

  pub integer_extent : (range : Option (ℤ × ℤ)) → kind_at ≡ Some integer → option_map (λ (row : SortRow). row.range) (slice_get signature.sorts s) ≡ Some range → extent_at (universe_of signature) s ≡ extent_of_range range
  integer_extent range h g = by_row integer (extent_at (universe_of signature) s ≡ extent_of_range range) h
      (λ row i k. extent_of_sort signature s low ∙ (extent_integer signature (ground_events signature) (ground_fluents signature) s row i k ∙ ap extent_of_range (is row (rw i at g))))
    where
      is : (row : SortRow) → option_map (λ (row : SortRow). row.range) (Some row) ≡ Some range → row.range ≡ range
      is row g = cc

  -- the size is what is counted, where it is small
  places_extent : (count n : ℕ) → extent_at (universe_of signature) s ≡ members count (λ k. true) → n ≡ min (size_of (extent_at (universe_of signature) s)) (2 ^ 62) → size_of (extent_at (universe_of signature) s) < 2 ^ 62 → (extent_at (universe_of signature) s ≡ members n (λ k. true)) × (n < 2 ^ 62)
  places_extent count n e m l =
      let size : size_of (extent_at (universe_of signature) s) ≡ count = ap size_of e ∙ size_of_places count in
      let same : n ≡ count = omega (arith, size, m, l) in
      (rw same e, omega (arith, m, l))

  pub event_extent : IsSignature signature → (n : ℕ) → kind_at ≡ Some event_kind → n ≡ min (size_of (extent_at (universe_of signature) s)) (2 ^ 62) → size_of (extent_at (universe_of signature) event_sort) < 2 ^ 62 → (extent_at (universe_of signature) s ≡ members n (λ k. true)) × (n < 2 ^ 62)
  event_extent valid n h m l = by_row event_kind ((extent_at (universe_of signature) s ≡ members n (λ k. true)) × (n < 2 ^ 62)) h
      (λ row i k.
      let test : kind_is_event row.kind ≡ (s == event_sort) = valid.event_kinds s row i in
      let there : s ≡ 4 = four row test k in
      places_extent (ground_events signature) n (extent_of_sort signature s low ∙ extent_event signature (ground_events signature) (ground_fluents signature) s row i k) m (rw there l))
    where
      four : (row : SortRow) → kind_is_event row.kind ≡ (s == event_sort) → row.kind ≡ event_kind → s ≡ 4
      four row t k = let yes : kind_is_event row.kind ≡ true = rw k refl in grind (arith, nat_tests)

  pub fluent_extent : IsSignature signature → (n : ℕ) → kind_at ≡ Some fluent_kind → n ≡ min (size_of (extent_at (universe_of signature) s)) (2 ^ 62) → size_of (extent_at (universe_of signature) fluent_sort) < 2 ^ 62 → (extent_at (universe_of signature) s ≡ members n (λ k. true)) × (n < 2 ^ 62)
  fluent_extent valid n h m l = by_row fluent_kind ((extent_at (universe_of signature) s ≡ members n (λ k. true)) × (n < 2 ^ 62)) h
      (λ row i k.
      let test : kind_is_fluent row.kind ≡ (s == fluent_sort) = valid.fluent_kinds s row i in
      let there : s ≡ 5 = five row test k in
      places_extent (ground_fluents signature) n (extent_of_sort signature s low ∙ extent_fluent signature (ground_events signature) (ground_fluents signature) s row i k) m (rw there l))
    where
      five : (row : SortRow) → kind_is_fluent row.kind ≡ (s == fluent_sort) → row.kind ≡ fluent_kind → s ≡ 5
      five row t k = let yes : kind_is_fluent row.kind ≡ true = rw k refl in grind (arith, nat_tests)

-- ---- one table more

pub tables_next : (signature : Signature) (tables : List Values) (table : Values) (k : ℕ) → length tables ≡ k → ((s : ℕ) (values : Values) → slice_get tables s ≡ Some values → IsTableOf (extent_at (universe_of signature) s) values) → IsTableOf (extent_at (universe_of signature) k) table
    → (s : ℕ) (values : Values) → slice_get (tables ++ table ∷ []) s ≡ Some values → IsTableOf (extent_at (universe_of signature) s) values
tables_next signature tables table k count each last s values h = by_parts (at_push tables s h)
  where
    at_push : (ts : List Values) (i : ℕ) → slice_get (ts ++ table ∷ []) i ≡ Some values → (slice_get ts i ≡ Some values) ⊎ ((i ≡ length ts) × (table ≡ values))
    at_push [] zero h = let e : table ≡ values = cc in inr (refl, e)
    at_push [] (suc i) h = cc
    at_push (t ∷ ts) zero h = inl h
    at_push (t ∷ ts) (suc i) h = elim (at_push ts i h) as (λ z. (slice_get ts i ≡ Some values) ⊎ ((suc i ≡ suc (length ts)) × (table ≡ values))) [
      | inl old ↦ inl old
      | inr new ↦ inr (ap suc new.0, new.1)
    ]

    by_parts : (slice_get tables s ≡ Some values) ⊎ ((s ≡ length tables) × (table ≡ values)) → IsTableOf (extent_at (universe_of signature) s) values
    by_parts (inl old) = each s values old
    by_parts (inr new) = let at : s ≡ k = new.0 ∙ count in rw (at, ← new.1) last
