-- Where the visible atoms are few, the universe is countable.
use Rattle.std.proofs.Common.{◌≡◌, ℕ, zero, suc, ◌+◌, ◌-◌, ◌*◌, ◌<◌, ◌≤◌, ◌^◌, ◌==◌, nat_lt, Bool, true, false, ◌&&◌, ◌||◌, if◌then◌else◌, List, [], ◌∷◌, length, map, slice_get, unwrap_or, Option, Some, None, ℤ, pos, negsuc, ◌+ℤ◌, neg_ℤ, int_le, refl, sym, ap, ◌∙◌, arith}
use Rattle.std.proofs.lemmas.Int.{ints}
use Rattle.std.proofs.lemmas.Bool.Decides.{nat_tests}
use Rattle.std.proofs.lemmas.Option.{unwrap_or-slice_get, slice_get_within, slice_get_past}
use Rattle.std.proofs.lemmas.List.FromFn.{get_or-map-range_with_len, length-map-range_with_len}
use Rattle.std.specs.List.{range_with_len}
use Rattle.ec_logic.specs.Signature.{Signature, SortRow, SymbolRow, Kind, plain, integer, event_kind, fluent_kind, event_sort, fluent_sort}
use Rattle.ec_logic.specs.Extent.{size_of, natural, passing, members}
use Rattle.ec_logic.specs.Universe.{Universe, no_values, universe_of, universe_with, extent_at, extent_of, extent_of_range, row_of, tuples, argument_sorts, ground_terms, before, is_constant_in}
use Rattle.ec_logic.specs.Atom.{tuples_of, visible_predicates, visible_atoms, predicates_in_order}
use Rattle.ec_logic.specs.Total.{total}
use Rattle.ec_logic.specs.Valid.{IsSignature, EachArgument, is_range, range_limit, is_reified_sort, row_passes, kind_is_reified, kind_is_event, kind_is_fluent}
use Rattle.ec_logic.specs.Countable.{IsCountable, count_of_all}
use Rattle.ec_logic.proofs.Numbering.{visible_count}
use Rattle.ec_logic.proofs.Numbers.{is_one_of, in_order}
use Rattle.ec_logic.proofs.Extents.{extent_of_sort, extents_length, arguments_length, ground_events, ground_fluents}
use Rattle.ec_logic.proofs.FewAtoms.{few_atoms, few_events, few_fluents, event_extent, fluent_extent, passing_all}
use Rattle.ec_logic.proofs.Tests.{and_parts, or_cases, same_number}

-- ---- rows of sorts that aren't reified

module _ (signature : Signature) (a b c d : ℕ) where
  with_extent : (x y s : ℕ) → s < length signature.sorts → extent_at (universe_with signature x y) s ≡ extent_of signature x y s
  with_extent x y s low =
      unwrap_or-slice_get (map (extent_of signature x y) (range_with_len 0 (length signature.sorts))) s no_values
      ∙ get_or-map-range_with_len (extent_of signature x y) 0 (length signature.sorts) s s no_values low (omega arith)

  same_extent : (s : ℕ) → is_reified_sort signature s ≡ false → extent_of signature a b s ≡ extent_of signature c d s
  same_extent s h = by_row (slice_get signature.sorts s) refl h
    where
      by_kind : (row : SortRow) (kind : Kind) → slice_get signature.sorts s ≡ Some row → row.kind ≡ kind → kind_is_reified kind ≡ false → extent_of signature a b s ≡ extent_of signature c d s
      by_kind row plain found k r = rw (found, k) refl
      by_kind row integer found k r = rw (found, k) refl
      by_kind row event_kind found k r = cc
      by_kind row fluent_kind found k r = cc

      by_row : (o : Option SortRow) → slice_get signature.sorts s ≡ o → row_passes (λ row. kind_is_reified row.kind) o ≡ false → extent_of signature a b s ≡ extent_of signature c d s
      by_row None found r = rw found refl
      by_row (Some row) found r = by_kind row row.kind found refl r

  same_tuples : (ss : List ℕ) → ((i s : ℕ) → slice_get ss i ≡ Some s → (s < length signature.sorts) × (is_reified_sort signature s ≡ false)) → tuples (universe_with signature a b) ss ≡ tuples (universe_with signature c d) ss
  same_tuples [] h = refl
  same_tuples (s ∷ ss) h =
      let here = h 0 s refl in
      let size : size_of (extent_at (universe_with signature a b) s) ≡ size_of (extent_at (universe_with signature c d) s) = ap size_of (with_extent a b s here.0 ∙ (same_extent s here.1 ∙ sym (with_extent c d s here.0))) in
      rw (size, same_tuples ss (λ i r e. h (suc i) r e)) refl

  pub same_count : (rows : List SymbolRow) → ((k : ℕ) (row : SymbolRow) → slice_get rows k ≡ Some row → (i s : ℕ) → slice_get row.sorts i ≡ Some s → (s < length signature.sorts) × (is_reified_sort signature s ≡ false))
      → before (universe_with signature a b) (argument_sorts rows) (length (argument_sorts rows)) ≡ before (universe_with signature c d) (argument_sorts rows) (length (argument_sorts rows))
  same_count [] h = refl
  same_count (row ∷ rows) h = rw (same_tuples row.sorts (h 0 row refl), same_count rows (λ k r e. h (suc k) r e)) refl

-- ---- each size is small

passing_at_most : (test : ℕ → Bool) (from n : ℕ) → passing test from n ≤ n
passing_at_most test from zero = omega arith
passing_at_most test from (suc n) = by_test (test from) (passing_at_most test (suc from) n)
  where
    by_test : (t : Bool) → passing test (suc from) n ≤ n → (if t then suc (passing test (suc from) n) else passing test (suc from) n) ≤ suc n
    by_test true h = omega (arith, h)
    by_test false h = omega (arith, h)

range_small : (range : Option (ℤ × ℤ)) → is_range range ≡ true → size_of (extent_of_range range) < 2 ^ 62
range_small None h = omega arith
range_small (Some (low, high)) h = by_size (high +ℤ neg_ℤ low +ℤ pos 1) refl
  where
    by_size : (z : ℤ) → high +ℤ neg_ℤ low +ℤ pos 1 ≡ z → unwrap_or (natural z) 0 < 2 ^ 62
    by_size (pos n) e = let most : n ≤ 2000001 = grind (arith, ints, nat_tests) in omega arith
    by_size (negsuc n) e = omega arith

one_of_total : (universe : Universe) (qs : List ℕ) (p : ℕ) → is_one_of qs p ≡ true → tuples_of universe p ≤ total universe qs
one_of_total universe [] p h = cc
one_of_total universe (q ∷ qs) p h = or_cases (tuples_of universe p ≤ total universe (q ∷ qs)) (q == p) (is_one_of qs p)
    (λ e. let same = ap (tuples_of universe) (same_number q p e) in omega (arith, same))
    (λ e. omega (arith, one_of_total universe qs p e)) h

module _ (signature : Signature) (valid : IsSignature signature) (few : total (universe_of signature) (visible_predicates (universe_of signature)) ≤ 262144) where
  small_size : (s : ℕ) → size_of (extent_at (universe_of signature) s) < 2 ^ 62
  small_size s = by_row (slice_get signature.sorts s) refl
    where
      missing : length signature.sorts ≤ s → size_of (extent_at (universe_of signature) s) < 2 ^ 62
      missing h =
          let past : slice_get (universe_of signature).extents s ≡ None = slice_get_past (universe_of signature).extents s (let l = extents_length signature in omega arith) in
          rw past (omega arith)

      by_kind : (row : SortRow) (kind : Kind) → slice_get signature.sorts s ≡ Some row → row.kind ≡ kind → kind_is_event kind ≡ (s == event_sort) → kind_is_fluent kind ≡ (s == fluent_sort) → size_of (extent_at (universe_of signature) s) < 2 ^ 62
      by_kind row plain found k p q =
          let is : extent_at (universe_of signature) s ≡ members (length signature.constants) (is_constant_in signature s) = extent_of_sort signature s (slice_get_within signature.sorts s row found) ∙ rw (found, k) refl in
          rw is (omega (arith, passing_at_most (is_constant_in signature s) 0 (length signature.constants), valid.listable.constants))
      by_kind row integer found k p q =
          let is : extent_at (universe_of signature) s ≡ extent_of_range row.range = extent_of_sort signature s (slice_get_within signature.sorts s row found) ∙ rw (found, k) refl in
          rw is (range_small row.range (valid.small_ranges s row found))
      by_kind row event_kind found k p q = let here : s ≡ event_sort = same_number s event_sort (sym p) in rw here (few_events signature valid few)
      by_kind row fluent_kind found k p q = let here : s ≡ fluent_sort = same_number s fluent_sort (sym q) in rw here (few_fluents signature valid few)

      by_row : (o : Option SortRow) → slice_get signature.sorts s ≡ o → size_of (extent_at (universe_of signature) s) < 2 ^ 62
      by_row None found = by_place (nat_lt s (length signature.sorts)) refl
        where
          by_place : (t : Bool) → nat_lt s (length signature.sorts) ≡ t → size_of (extent_at (universe_of signature) s) < 2 ^ 62
          by_place true e = let is = extent_of_sort signature s (grind (arith, nat_tests)) in rw (is, found) (omega arith)
          by_place false e = missing (grind (arith, nat_tests))
      by_row (Some row) found = by_kind row row.kind found refl (valid.event_kinds s row found) (valid.fluent_kinds s row found)

  small_row : (p : ℕ) → tuples (universe_of signature) (row_of (universe_of signature).predicates p) < 2 ^ 62
  small_row p = by_place (nat_lt p (length (universe_of signature).predicates)) refl
    where
      by_place : (t : Bool) → nat_lt p (length (universe_of signature).predicates) ≡ t → tuples (universe_of signature) (row_of (universe_of signature).predicates p) < 2 ^ 62
      by_place true e = omega (arith, one_of_total (universe_of signature) (predicates_in_order (universe_of signature)) p (in_order (universe_of signature) p (grind (arith, nat_tests))), few_atoms signature valid few)
      by_place false e =
          let past : row_of (universe_of signature).predicates p ≡ [] = rw (slice_get_past (universe_of signature).predicates p (grind (arith, nat_tests))) refl in
          rw past (omega arith)

  small_events : count_of_all (universe_of signature) (universe_of signature).events < 2 ^ 62
  small_events =
      let same = same_count signature 0 0 (ground_events signature) (ground_fluents signature) signature.events
      (λ k row found i s at. (valid.known_sorts.events k row found i s at, valid.unreified_event_arguments k row found i s at)) in
      let size : size_of (extent_at (universe_of signature) event_sort) ≡ ground_events signature = ap size_of (event_extent signature valid) ∙ passing_all signature valid 0 (ground_events signature) in
      omega (arith, same, size, few_events signature valid few)

  small_fluents : count_of_all (universe_of signature) (universe_of signature).fluents < 2 ^ 62
  small_fluents =
      let same = same_count signature 0 0 (ground_events signature) (ground_fluents signature) signature.fluents
      (λ k row found i s at. (valid.known_sorts.fluents k row found i s at, valid.unreified_fluent_arguments k row found i s at)) in
      let size : size_of (extent_at (universe_of signature) fluent_sort) ≡ ground_fluents signature = ap size_of (fluent_extent signature valid) ∙ passing_all signature valid 0 (ground_fluents signature) in
      omega (arith, same, size, few_fluents signature valid few)

  pub countable : IsCountable (universe_of signature)
  countable = record { values = small_size; events = small_events; fluents = small_fluents; predicates = small_row }

-- from the number of the visible atoms
pub countable_by_visible : (signature : Signature) (n : ℕ) → IsSignature signature → n ≡ length (visible_atoms (universe_of signature)) → n ≤ 262144 → IsCountable (universe_of signature)
countable_by_visible signature n valid e few = countable signature valid (omega (arith, visible_count (universe_of signature), e, few))
