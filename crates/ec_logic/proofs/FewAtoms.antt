-- Where the visible atoms are few, so are the ground events and fluents, and all atoms can be counted.
use Rattle.std.proofs.Common.{◌≡◌, ℕ, zero, suc, ◌+◌, ◌-◌, ◌*◌, ◌<◌, ◌≤◌, ◌^◌, Bool, true, false, List, [], ◌∷◌, ◌++◌, length, map, take, slice_get, unwrap_or, Option, Some, None, option_map, ℤ, pos, negsuc, ◌+ℤ◌, neg_ℤ, int_le, ◌&&◌, refl, sym, ap, ◌∙◌, arith, mul-le-mul_right}
use Rattle.std.proofs.Math.Nat.{mul-le-mul, mul-le-mul_left}
use Rattle.std.proofs.lemmas.Int.{ints}
use Rattle.std.proofs.lemmas.Option.{slice_get-map, slice_get_within}
use Rattle.std.proofs.lemmas.List.{length-append, length-take}
use Rattle.ec_logic.specs.Signature.{Signature, SortRow, SymbolRow, time_sort, event_sort, fluent_sort}
use Rattle.ec_logic.specs.BuiltIn.{built_in_predicates, built_in_sorts}
use Rattle.ec_logic.specs.Extent.{size_of, natural, passing, members}
use Rattle.ec_logic.specs.Universe.{Universe, universe_of, universe_with, extent_at, extent_of, extent_of_range, row_of, tuples, argument_sorts, ground_terms, before}
use Rattle.ec_logic.specs.Atom.{tuples_of, declared, visible_predicates, predicates_in_order}
use Rattle.ec_logic.specs.Total.{total}
use Rattle.ec_logic.specs.Valid.{IsSignature, is_range, has_range, range_of, range_limit, row_range, row_passes, kind_is_integer}
use Rattle.ec_logic.proofs.Numbering.{total-append}
use Rattle.ec_logic.proofs.Extents.{extent_of_sort, extent_integer, ground_events, ground_fluents}
use Rattle.ec_logic.proofs.Tests.{and_parts}

pub six_predicates : (signature : Signature) → IsSignature signature → 6 ≤ length (universe_of signature).predicates
six_predicates signature valid =
    let six : length (take 6 signature.predicates) ≡ 6 = rw valid.built_in_first.predicates refl in
    let l = length-take 6 signature.predicates in
    let same = length_map signature.predicates in
    omega arith
  where
    length_map : (rows : List SymbolRow) → length (argument_sorts rows) ≡ length rows
    length_map [] = refl
    length_map (row ∷ rows) = ap suc (length_map rows)

module _ (signature : Signature) (valid : IsSignature signature) where
  abbrev universe : Universe
  universe = universe_of signature

  in_front : {X : Type 0} (rows : List X) (n k : ℕ) → k < n → slice_get (take n rows) k ≡ slice_get rows k
  in_front rows zero k h = absurd (omega (arith, h))
  in_front [] (suc n) k h = refl
  in_front (row ∷ rows) (suc n) zero h = refl
  in_front (row ∷ rows) (suc n) (suc k) h = in_front rows n k (omega (arith, h))

  built_in_row : (k : ℕ) → k < 6 → row_of universe.predicates k ≡ unwrap_or (option_map (λ (row : SymbolRow). row.sorts) (slice_get built_in_predicates k)) []
  built_in_row k h =
      let front = in_front signature.predicates 6 k h in
      rw (slice_get-map (λ (row : SymbolRow). row.sorts) signature.predicates k, ← front, valid.built_in_first.predicates) refl

  abbrev e : ℕ
  e = size_of (extent_at universe event_sort)

  abbrev f : ℕ
  f = size_of (extent_at universe fluent_sort)

  abbrev t : ℕ
  t = size_of (extent_at universe time_sort)

  holds_count : tuples_of universe 0 ≡ f * (t * 1)
  holds_count = ap (tuples universe) (built_in_row 0 (omega arith))

  happens_count : tuples_of universe 2 ≡ e * (t * 1)
  happens_count = ap (tuples universe) (built_in_row 2 (omega arith))

  effect_count : (k : ℕ) → k < 6 → 3 ≤ k → tuples_of universe k ≡ e * (f * (t * 1))
  effect_count zero h l = absurd (omega (arith, l))
  effect_count (suc zero) h l = absurd (omega (arith, l))
  effect_count (suc (suc zero)) h l = absurd (omega (arith, l))
  effect_count (suc (suc (suc zero))) h l = ap (tuples universe) (built_in_row 3 h)
  effect_count (suc (suc (suc (suc zero)))) h l = ap (tuples universe) (built_in_row 4 h)
  effect_count (suc (suc (suc (suc (suc zero))))) h l = ap (tuples universe) (built_in_row 5 h)
  effect_count (suc (suc (suc (suc (suc (suc k)))))) h l = absurd (omega (arith, h))

  product_few : (a b c : ℕ) → a * c ≤ 262144 → b * c ≤ 262144 → a * (b * (c * 1)) ≤ 68719476736
  product_few a b zero h k = omega arith
  product_few a b (suc c) h k =
      let m : (a * suc c) * (b * suc c) ≤ 262144 * 262144 = mul-le-mul h k in
      let g : a * (b * (suc c * 1)) * 1 ≤ a * (b * (suc c * 1)) * suc c = mul_more (a * (b * (suc c * 1))) c in
      let s : a * (b * (suc c * 1)) * suc c ≡ (a * suc c) * (b * suc c) = omega arith in
      omega (arith, m, g, s)
    where
      mul_more : (x d : ℕ) → x * 1 ≤ x * suc d
      mul_more x d = omega arith

  pub few_atoms : total universe (visible_predicates universe) ≤ 262144 → total universe (predicates_in_order universe) < 2 ^ 62
  few_atoms h =
      let all = total-append universe (visible_predicates universe) (3 ∷ 4 ∷ 5 ∷ []) in
      let x = effect_count 3 (omega arith) (omega arith) in
      let y = effect_count 4 (omega arith) (omega arith) in
      let z = effect_count 5 (omega arith) (omega arith) in
      let held = holds_count in
      let happening = happens_count in
      let ft : f * t ≤ 262144 = omega (arith, h, held) in
      let et : e * t ≤ 262144 = omega (arith, h, happening) in
      let each = product_few e f t et ft in
      omega (arith, all, x, y, z, each, h)

  -- ---- the events and fluents

  sort_row : (k : ℕ) (row : SortRow) → k < 6 → slice_get (built_in_sorts (range_of signature 1) (range_of signature 2) (range_of signature 3)) k ≡ Some row → slice_get signature.sorts k ≡ Some row
  sort_row k row h e = let front = in_front signature.sorts 6 k h in rw (← front, valid.built_in_first.sorts) e

  time_extent : extent_at universe time_sort ≡ extent_of_range (range_of signature time_sort)
  time_extent = extent_integer signature time_sort (ap (row_passes (λ (row : SortRow). kind_is_integer row.kind)) (sort_row 2 _ (omega arith) refl))

  pub event_extent : extent_at universe event_sort ≡ members (ground_events signature) (λ k. true)
  event_extent =
      let found = sort_row 4 _ (omega arith) refl in
      extent_of_sort signature event_sort (slice_get_within signature.sorts event_sort _ found) ∙ rw found refl

  pub fluent_extent : extent_at universe fluent_sort ≡ members (ground_fluents signature) (λ k. true)
  fluent_extent =
      let found = sort_row 5 _ (omega arith) refl in
      extent_of_sort signature fluent_sort (slice_get_within signature.sorts fluent_sort _ found) ∙ rw found refl

  pub passing_all : (from n : ℕ) → passing (λ k. true) from n ≡ n
  passing_all from zero = refl
  passing_all from (suc n) = ap suc (passing_all (suc from) n)

  range_positive : (range : Option (ℤ × ℤ)) → is_range range ≡ true → has_range range ≡ true → 1 ≤ size_of (extent_of_range range)
  range_positive None h k = cc
  range_positive (Some (a, b)) h k = by_size (b +ℤ neg_ℤ a +ℤ pos 1) refl
    where
      order : int_le a b ≡ true
      order = (and_parts (int_le (neg_ℤ (pos range_limit)) a) (int_le a b) (and_parts (int_le (neg_ℤ (pos range_limit)) a && int_le a b) (int_le b (pos range_limit)) h).0).1

      by_size : (z : ℤ) → b +ℤ neg_ℤ a +ℤ pos 1 ≡ z → 1 ≤ unwrap_or (natural z) 0
      by_size (pos n) e = grind (arith, ints, order)
      by_size (negsuc n) e = absurd (grind (arith, ints, order))

  times_positive : 0 < length (signature.events ++ signature.fluents) → 1 ≤ t
  times_positive h = rw time_extent (range_positive (range_of signature time_sort) small (valid.time_range h))
    where
      small : is_range (range_of signature time_sort) ≡ true
      small = let found = sort_row 2 _ (omega arith) refl in rw found (valid.small_ranges time_sort _ found)

  few_of : (x : ℕ) → x * t ≤ 262144 → 1 ≤ t → x ≤ 262144
  few_of x h p = let m : x * 1 ≤ x * t = mul-le-mul_left x p in omega (arith, m, h)

  none_ground : (rows : List SymbolRow) → length rows ≡ 0 → ground_terms signature (argument_sorts rows) ≡ 0
  none_ground [] h = refl
  none_ground (row ∷ rows) h = absurd (omega (arith, h))

  pub few_events : total universe (visible_predicates universe) ≤ 262144 → e < 2 ^ 62
  few_events h =
      let happening = happens_count in
      let et : e * t ≤ 262144 = omega (arith, h, happening) in
      by_count (length signature.events) refl et
    where
      by_count : (n : ℕ) → length signature.events ≡ n → e * t ≤ 262144 → e < 2 ^ 62
      by_count zero l et = let none : e ≡ 0 = rw (event_extent, none_ground signature.events l) refl in omega (arith, none)
      by_count (suc n) l et =
          let some : 0 < length (signature.events ++ signature.fluents) = rw (length-append signature.events signature.fluents) (omega (arith, l)) in
          let few = few_of e et (times_positive some) in
          omega (arith, few)

  pub few_fluents : total universe (visible_predicates universe) ≤ 262144 → f < 2 ^ 62
  few_fluents h =
      let held = holds_count in
      let ft : f * t ≤ 262144 = omega (arith, h, held) in
      by_count (length signature.fluents) refl ft
    where
      by_count : (n : ℕ) → length signature.fluents ≡ n → f * t ≤ 262144 → f < 2 ^ 62
      by_count zero l ft = let none : f ≡ 0 = rw (fluent_extent, none_ground signature.fluents l) refl in omega (arith, none)
      by_count (suc n) l ft =
          let some : 0 < length (signature.events ++ signature.fluents) = rw (length-append signature.events signature.fluents) (omega (arith, l)) in
          let few = few_of f ft (times_positive some) in
          omega (arith, few)
