-- The table of sizes is that of the universe.
use Rattle.std.proofs.Common.{◌≡◌, ℕ, ◌+◌, ◌*◌, ◌<◌, ◌≤◌, ◌^◌, ◌==◌, min, true, false, List, [], ◌∷◌, length, take, get_or, set, slice_get, unwrap_or, Option, Some, None, option_map, refl, sym, ap, ◌∙◌, arith}
use Rattle.std.specs.List.{range_with_len}
use Rattle.std.proofs.lemmas.Bool.Decides.{nat_tests}
use Rattle.std.proofs.lemmas.List.{length-take, length-set, get_or-set_same, get_or-set_other}
use Rattle.std.proofs.lemmas.List.FromFn.{get_or-map-range_with_len, length-map-range_with_len}
use Rattle.std.proofs.lemmas.Option.{slice_get-map, slice_get-get_or, slice_get_within}
use Rattle.std.proofs.lemmas.Grind.{same_number_lists}
use Rattle.ec_logic.specs.Signature.{Signature, SortRow, SymbolRow, Kind, plain, integer, event_kind, fluent_kind}
use Rattle.ec_logic.specs.Extent.{size_of, passing, members}
use Rattle.ec_logic.specs.Universe.{extent_at, extent_of, extent_of_range, is_constant_in, universe_with, tuples, before, argument_sorts, no_values, ground_terms, universe_of}
use Rattle.ec_logic.specs.Valid.{IsSignature, BeginsBuiltIn, kind_is_event, kind_is_fluent}
use Rattle.ec_theory.specs.Sizes.{stopped, sizes_with, product_of_sizes, sum_of_products, IsSized}
use Rattle.ec_theory.specs.Counts.{AreCounts}
use Rattle.ec_theory.proofs.CountLemmas.{passing_few}
use Rattle.ec_theory.proofs.SizeLemmas.{stopped_small, stopped_times, passing_all}

-- ---- the extent of a sort by its kind

module _ (signature : Signature) (events fluents s : ℕ) (row : SortRow) (h : slice_get signature.sorts s ≡ Some row) where
  pub extent_plain : row.kind ≡ plain → extent_of signature events fluents s ≡ members (length signature.constants) (is_constant_in signature s)
  extent_plain k = rw (h, k) refl

  pub extent_integer : row.kind ≡ integer → extent_of signature events fluents s ≡ extent_of_range row.range
  extent_integer k = rw (h, k) refl

  pub extent_event : row.kind ≡ event_kind → extent_of signature events fluents s ≡ members events (λ k. true)
  extent_event k = rw (h, k) refl

  pub extent_fluent : row.kind ≡ fluent_kind → extent_of signature events fluents s ≡ members fluents (λ k. true)
  extent_fluent k = rw (h, k) refl

module _ (signature : Signature) (s : ℕ) where
  -- a sort that there is has a number below their count, and a place among the counts
  pub sort_counted : (row : SortRow) (counts : List ℕ) (n : ℕ) → slice_get signature.sorts s ≡ Some row → AreCounts signature n counts → s < length counts
  sort_counted row counts n h c = let l : s < length signature.sorts = slice_get_within signature.sorts s row h in rw c.each_sort l

  pub size_plain : (row : SortRow) (counts : List ℕ) (n : ℕ) → slice_get signature.sorts s ≡ Some row → row.kind ≡ plain → AreCounts signature (length signature.constants) counts → length signature.constants < 2 ^ 31 → n ≡ get_or counts s 0 → n ≡ stopped (size_of (extent_of signature 0 0 s))
  size_plain row counts n h k c few e =
      let l : s < length signature.sorts = slice_get_within signature.sorts s row h in
      let counted : n ≡ passing (is_constant_in signature s) 0 (length signature.constants) = e ∙ c.counted s l in
      let small = passing_few (is_constant_in signature s) 0 (length signature.constants) in
      rw (extent_plain signature 0 0 s row h k, ← counted) (sym (stopped_small n (omega arith)))

  pub size_integer : (row : SortRow) (n : ℕ) → slice_get signature.sorts s ≡ Some row → row.kind ≡ integer → n ≡ size_of (extent_of_range row.range) → n < 2 ^ 32 → n ≡ stopped (size_of (extent_of signature 0 0 s))
  size_integer row n h k e l = rw (extent_integer signature 0 0 s row h k, ← e) (sym (stopped_small n l))

  pub size_event : (row : SortRow) → slice_get signature.sorts s ≡ Some row → row.kind ≡ event_kind → 0 ≡ stopped (size_of (extent_of signature 0 0 s))
  size_event row h k = rw (extent_event signature 0 0 s row h k) refl

  pub size_fluent : (row : SortRow) → slice_get signature.sorts s ≡ Some row → row.kind ≡ fluent_kind → 0 ≡ stopped (size_of (extent_of signature 0 0 s))
  size_fluent row h k = rw (extent_fluent signature 0 0 s row h k) refl

  pub size_none : slice_get signature.sorts s ≡ None → 0 ≡ stopped (size_of (extent_of signature 0 0 s))
  size_none h = rw h refl

-- ---- products and sums of sizes

size_entry : (signature : Signature) (e f s : ℕ) → unwrap_or (slice_get (sizes_with signature e f) s) 0 ≡ stopped (size_of (extent_at (universe_with signature e f) s))
size_entry signature e f s =
    rw (slice_get-map (λ k. stopped (size_of (extent_of signature e f k))) (range_with_len 0 (length signature.sorts)) s, slice_get-map (extent_of signature e f) (range_with_len 0 (length signature.sorts)) s)
    (cases (slice_get (range_with_len 0 (length signature.sorts)) s))
  where
    cases : (o : Option ℕ) → unwrap_or (option_map (λ k. stopped (size_of (extent_of signature e f k))) o) 0 ≡ stopped (size_of (unwrap_or (option_map (extent_of signature e f) o) no_values))
    cases None = refl
    cases (Some k) = refl

times_step : (a b c : ℕ) → stopped b ≡ stopped c → stopped (stopped a * b) ≡ stopped (a * c)
times_step a b c h =
    let left : a * b ≡ b * a = omega arith in
    let right : c * a ≡ a * c = omega arith in
    stopped_times a b ∙ ap stopped left ∙ sym (stopped_times b a) ∙ ap (λ n. stopped (n * a)) h ∙ stopped_times c a ∙ ap stopped right

pub products : (signature : Signature) (e f : ℕ) (ss : List ℕ) → stopped (product_of_sizes (sizes_with signature e f) ss) ≡ stopped (tuples (universe_with signature e f) ss)
products signature e f [] = refl
products signature e f (s ∷ ss) = rw (size_entry signature e f s) (times_step (size_of (extent_at (universe_with signature e f) s)) (product_of_sizes (sizes_with signature e f) ss) (tuples (universe_with signature e f) ss) (products signature e f ss))

pub sums : (signature : Signature) (e f : ℕ) (rows : List SymbolRow) → stopped (sum_of_products (sizes_with signature e f) rows) ≡ stopped (before (universe_with signature e f) (argument_sorts rows) (length (argument_sorts rows)))
sums signature e f [] = refl
sums signature e f (row ∷ rows) =
    let here = products signature e f row.sorts in
    let later = sums signature e f rows in
    plus_step _ _ _ _ here later
  where
    plus_step : (a b c d : ℕ) → stopped a ≡ stopped c → stopped b ≡ stopped d → stopped (a + b) ≡ stopped (c + d)
    plus_step a b c d g h = omega arith

-- ---- events and fluents counted in

pub six_sorts : (signature : Signature) → BeginsBuiltIn signature → 6 ≤ length signature.sorts
six_sorts signature h = let six : length (take 6 signature.sorts) ≡ 6 = rw h.sorts refl in let l = length-take 6 signature.sorts in omega arith

pub six_predicates : (signature : Signature) → IsSignature signature → 6 ≤ length signature.predicates
six_predicates signature h = let six : length (take 6 signature.predicates) ≡ 6 = rw h.built_in_first.predicates refl in let l = length-take 6 signature.predicates in omega arith

no_row : SortRow
no_row = record { name = []; kind = plain; parent = None; range = None }

module _ (signature : Signature) (e f : ℕ) (valid : IsSignature signature) where
  entry : (a b k : ℕ) → k < length signature.sorts → get_or (sizes_with signature a b) k 0 ≡ stopped (size_of (extent_of signature a b k))
  entry a b k l = get_or-map-range_with_len (λ s. stopped (size_of (extent_of signature a b s))) 0 (length signature.sorts) k k 0 l (omega arith)

  count : (a b : ℕ) → length (sizes_with signature a b) ≡ length signature.sorts
  count a b = length-map-range_with_len (λ s. stopped (size_of (extent_of signature a b s))) 0 (length signature.sorts)

  abbrev filled : List ℕ
  filled = set (set (sizes_with signature 0 0) 4 (stopped e)) 5 (stopped f)

  elsewhere : (k : ℕ) → k < length signature.sorts → (k == 4) ≡ false → (k == 5) ≡ false → get_or filled k 0 ≡ stopped (size_of (extent_of signature 0 0 k))
  elsewhere k l p q =
      let four : k ≡ 4 → ⊥ = λ x. (let y : (k == 4) ≡ true = rw x refl in cc) in
      let five : k ≡ 5 → ⊥ = λ x. (let y : (k == 5) ≡ true = rw x refl in cc) in
      get_or-set_other (set (sizes_with signature 0 0) 4 (stopped e)) 5 k (stopped f) 0 five ∙ (get_or-set_other (sizes_with signature 0 0) 4 k (stopped e) 0 four ∙ entry 0 0 k l)

  at_event : get_or filled 4 0 ≡ stopped e
  at_event = let many = six_sorts signature valid.built_in_first in let n = count 0 0 in
      get_or-set_other (set (sizes_with signature 0 0) 4 (stopped e)) 5 4 (stopped f) 0 (λ x. omega (arith, x)) ∙ get_or-set_same (sizes_with signature 0 0) 4 (stopped e) 0 (omega arith)

  at_fluent : get_or filled 5 0 ≡ stopped f
  at_fluent = let many = six_sorts signature valid.built_in_first in let n = count 0 0 in let m = length-set (sizes_with signature 0 0) 4 (stopped e) in
      get_or-set_same (set (sizes_with signature 0 0) 4 (stopped e)) 5 (stopped f) 0 (omega arith)

  at_kind : (k : ℕ) (row : SortRow) (kind : Kind) → k < length signature.sorts → slice_get signature.sorts k ≡ Some row → row.kind ≡ kind → kind_is_event kind ≡ (k == 4) → kind_is_fluent kind ≡ (k == 5) → get_or filled k 0 ≡ stopped (size_of (extent_of signature e f k))
  at_kind k row plain l h i p q = elsewhere k l (sym p) (sym q) ∙ ap (λ x. stopped (size_of x)) (extent_plain signature 0 0 k row h i ∙ sym (extent_plain signature e f k row h i))
  at_kind k row integer l h i p q = elsewhere k l (sym p) (sym q) ∙ ap (λ x. stopped (size_of x)) (extent_integer signature 0 0 k row h i ∙ sym (extent_integer signature e f k row h i))
  at_kind k row event_kind l h i p q = let four : k ≡ 4 = grind (arith, nat_tests) in
      ap (λ n. get_or filled n 0) four ∙ (at_event ∙ sym (ap (λ x. stopped (size_of x)) (extent_event signature e f k row h i) ∙ ap stopped (passing_all 0 e)))
  at_kind k row fluent_kind l h i p q = let five : k ≡ 5 = grind (arith, nat_tests) in
      ap (λ n. get_or filled n 0) five ∙ (at_fluent ∙ sym (ap (λ x. stopped (size_of x)) (extent_fluent signature e f k row h i) ∙ ap stopped (passing_all 0 f)))

  pub filled_is : filled ≡ sizes_with signature e f
  filled_is = same_number_lists filled (sizes_with signature e f) (length-set (set (sizes_with signature 0 0) 4 (stopped e)) 5 (stopped f) ∙ (length-set (sizes_with signature 0 0) 4 (stopped e) ∙ (count 0 0 ∙ sym (count e f)))) (λ k l. at k (within k l))
    where
      within : (k : ℕ) → k < length filled → k < length signature.sorts
      within k l = let a = length-set (set (sizes_with signature 0 0) 4 (stopped e)) 5 (stopped f) in let b = length-set (sizes_with signature 0 0) 4 (stopped e) in let n = count 0 0 in omega arith

      at : (k : ℕ) → k < length signature.sorts → get_or filled k 0 ≡ get_or (sizes_with signature e f) k 0
      at k l =
          let row = get_or signature.sorts k no_row in
          let h = slice_get-get_or signature.sorts k no_row l in
          at_kind k row row.kind l h refl (valid.event_kinds k row h) (valid.fluent_kinds k row h) ∙ sym (entry e f k l)

pub sized : (signature : Signature) (sizes : List ℕ) (e f : ℕ) → IsSignature signature → sizes ≡ sizes_with signature 0 0 → e ≡ stopped (sum_of_products sizes signature.events) → f ≡ stopped (sum_of_products sizes signature.fluents) → IsSized signature (set (set sizes 4 e) 5 f)
sized signature sizes e f valid s g h = record {
  valid = valid;
  sizes_are =
      let events : e ≡ stopped (ground_terms signature (argument_sorts signature.events)) = g ∙ (ap (λ x. stopped (sum_of_products x signature.events)) s ∙ sums signature 0 0 signature.events) in
      let fluents : f ≡ stopped (ground_terms signature (argument_sorts signature.fluents)) = h ∙ (ap (λ x. stopped (sum_of_products x signature.fluents)) s ∙ sums signature 0 0 signature.fluents) in
      rw (events, fluents, s) (filled_is signature (ground_terms signature (argument_sorts signature.events)) (ground_terms signature (argument_sorts signature.fluents)) valid);
}

pub sized_size : (signature : Signature) (sizes : List ℕ) (s n : ℕ) → IsSized signature sizes → n ≡ unwrap_or (slice_get sizes s) 0 → n ≡ min (size_of (extent_at (universe_of signature) s)) (2 ^ 62)
sized_size signature sizes s n sized e = e ∙ (ap (λ xs. unwrap_or (slice_get xs s) 0) sized.sizes_are ∙ size_entry signature (ground_terms signature (argument_sorts signature.events)) (ground_terms signature (argument_sorts signature.fluents)) s)

pub sized_tuples : (signature : Signature) (sizes sorts : List ℕ) (n : ℕ) → IsSized signature sizes → n ≡ stopped (product_of_sizes sizes sorts) → n ≡ min (tuples (universe_of signature) sorts) (2 ^ 62)
sized_tuples signature sizes sorts n sized e = e ∙ (ap (λ xs. stopped (product_of_sizes xs sorts)) sized.sizes_are ∙ products signature (ground_terms signature (argument_sorts signature.events)) (ground_terms signature (argument_sorts signature.fluents)) sorts)
