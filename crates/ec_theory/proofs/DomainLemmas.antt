-- Domains by the kind of the sort.
use Rattle.std.proofs.Common.{◌≡◌, ℕ, zero, suc, ◌+◌, ◌<◌, ◌^◌, min, Bool, true, false, ℤ, pos, neg_ℤ, ◌+ℤ◌, List, [], ◌∷◌, ◌++◌, length, map, filter, slice_get, Option, Some, None, option_map, refl, sym, ap, ◌∙◌, arith}
use Rattle.std.specs.List.{range_with_len}
use Rattle.std.proofs.lemmas.Option.{slice_get-map}
use Rattle.ec_logic.specs.Signature.{Signature, SortRow, Kind, plain, integer, event_kind, fluent_kind}
use Rattle.ec_logic.specs.Extent.{members, domain_of, size_of}
use Rattle.ec_logic.specs.Universe.{domain, extent_at, extent_of, extent_of_range, is_constant_in, universe_with, universe_of, argument_sorts, ground_terms}
use Rattle.ec_logic.specs.Valid.{is_plain_sort}
use Rattle.std.proofs.lemmas.List.{map-append, append-nil}
use Rattle.std.proofs.lemmas.List.Elements.{filter-append}
use Rattle.std.proofs.lemmas.List.FromFn.{map-range_with_len_more}
use Rattle.ec_theory.specs.declared.value.Value.{Value}
use Rattle.ec_theory.specs.Values.{numbers_of}
use Rattle.ec_theory.proofs.TableLemmas.{extent_plain, extent_integer, extent_event, extent_fluent}
use Rattle.ec_theory.proofs.SizeLemmas.{passing_all}

-- the extent in the universe is that of the sort
extent_at_is : (signature : Signature) (e f s : ℕ) (row : SortRow) → slice_get signature.sorts s ≡ Some row → extent_at (universe_with signature e f) s ≡ extent_of signature e f s
extent_at_is signature e f s row h = rw (slice_get-map (extent_of signature e f) (range_with_len 0 (length signature.sorts)) s, place 0 (length signature.sorts) s (within signature.sorts s row h)) (ap (extent_of signature e f) (omega arith))
  where
    place : (from n k : ℕ) → k < n → slice_get (range_with_len from n) k ≡ Some (from + k)
    place from zero k l = absurd (omega (arith, l))
    place from (suc n) zero l = ap Some (omega arith)
    place from (suc n) (suc k) l = place (from + 1) n k (omega (arith, l)) ∙ ap Some (omega arith)

    within : (xs : List SortRow) (k : ℕ) (x : SortRow) → slice_get xs k ≡ Some x → k < length xs
    within [] k x h = cc
    within (y ∷ xs) zero x h = omega arith
    within (y ∷ xs) (suc k) x h = let l = within xs k x h in omega arith

filter_all : (xs : List ℕ) → filter (λ k. true) xs ≡ xs
filter_all [] = refl
filter_all (x ∷ xs) = ap (λ ys. x ∷ ys) (filter_all xs)

module _ (signature : Signature) (s : ℕ) where
  abbrev kind_at : Option Kind
  kind_at = option_map (λ (row : SortRow). row.kind) (slice_get signature.sorts s)

  abbrev e : ℕ
  e = ground_terms signature (argument_sorts signature.events)

  abbrev f : ℕ
  f = ground_terms signature (argument_sorts signature.fluents)

  -- a fact of the row from its kind
  by_row : (kind : Kind) (P : Type 0) → kind_at ≡ Some kind → ((row : SortRow) → slice_get signature.sorts s ≡ Some row → row.kind ≡ kind → P) → P
  by_row kind P h go = cases (slice_get signature.sorts s) refl h
    where
      cases : (o : Option SortRow) → slice_get signature.sorts s ≡ o → option_map (λ (row : SortRow). row.kind) o ≡ Some kind → P
      cases None i k = cc
      cases (Some row) i k = let is : row.kind ≡ kind = cc in go row i is

  pub plain_by_kind : kind_at ≡ Some plain → is_plain_sort signature s ≡ true
  plain_by_kind h = by_row plain (is_plain_sort signature s ≡ true) h (λ row i k. rw (i, k) refl)

  pub domain_plain : kind_at ≡ Some plain → domain (universe_of signature) s ≡ map pos (filter (is_constant_in signature s) (range_with_len 0 (length signature.constants)))
  domain_plain h = by_row plain (domain (universe_of signature) s ≡ map pos (filter (is_constant_in signature s) (range_with_len 0 (length signature.constants)))) h
      (λ row i k. ap domain_of (extent_at_is signature e f s row i ∙ extent_plain signature e f s row i k))

  pub domain_integer : (range : Option (ℤ × ℤ)) → kind_at ≡ Some integer → option_map (λ (row : SortRow). row.range) (slice_get signature.sorts s) ≡ Some range → domain (universe_of signature) s ≡ domain_of (extent_of_range range)
  domain_integer range h g = by_row integer (domain (universe_of signature) s ≡ domain_of (extent_of_range range)) h
      (λ row i k. ap domain_of (extent_at_is signature e f s row i ∙ (extent_integer signature e f s row i k ∙ ap extent_of_range (same row (rw i at g)))))
    where
      same : (row : SortRow) → option_map (λ (row : SortRow). row.range) (Some row) ≡ Some range → row.range ≡ range
      same row g = cc

  places : (count n : ℕ) → n ≡ min (size_of (members count (λ k. true))) (2 ^ 62) → size_of (members count (λ k. true)) < 2 ^ 32 → domain_of (members count (λ k. true)) ≡ map pos (range_with_len 0 n)
  places count n h l =
      let all = passing_all 0 count in
      let same : n ≡ count = omega (arith, all, h, l) in
      rw (filter_all (range_with_len 0 count), same) refl

  pub domain_event : (n : ℕ) → kind_at ≡ Some event_kind → n ≡ min (size_of (extent_at (universe_of signature) s)) (2 ^ 62) → size_of (extent_at (universe_of signature) s) < 2 ^ 32 → domain (universe_of signature) s ≡ map pos (range_with_len 0 n)
  domain_event n h m l = by_row event_kind (domain (universe_of signature) s ≡ map pos (range_with_len 0 n)) h
      (λ row i k. let is = extent_at_is signature e f s row i ∙ extent_event signature e f s row i k in ap domain_of is ∙ places e n (rw is at m) (rw is at l))

  pub domain_fluent : (n : ℕ) → kind_at ≡ Some fluent_kind → n ≡ min (size_of (extent_at (universe_of signature) s)) (2 ^ 62) → size_of (extent_at (universe_of signature) s) < 2 ^ 32 → domain (universe_of signature) s ≡ map pos (range_with_len 0 n)
  domain_fluent n h m l = by_row fluent_kind (domain (universe_of signature) s ≡ map pos (range_with_len 0 n)) h
      (λ row i k. let is = extent_at_is signature e f s row i ∙ extent_fluent signature e f s row i k in ap domain_of is ∙ places f n (rw is at m) (rw is at l))

-- the numbers of a range
pub range_domain : (a b : ℤ) (n : ℕ) → pos n ≡ b +ℤ neg_ℤ a +ℤ pos 1 → domain_of (extent_of_range (Some (a, b))) ≡ map (λ k. a +ℤ pos k) (range_with_len 0 n)
range_domain a b n h = rw (← h) refl

-- ---- one value more

put_last : (values : List Value) (value : Value) → numbers_of (values ++ value ∷ []) ≡ numbers_of values ++ value.0 ∷ []
put_last [] value = refl
put_last (v ∷ values) value = ap (λ vs. v.0 ∷ vs) (put_last values value)

pub one_more : (values : List Value) (value : Value) (f : ℕ → ℤ) (k : ℕ) → numbers_of values ≡ map f (range_with_len 0 k) → value.0 ≡ f k → numbers_of (values ++ value ∷ []) ≡ map f (range_with_len 0 (k + 1))
one_more values value f k h e = put_last values value ∙ (rw (h, e) (sym (map-range_with_len_more f 0 k k (omega arith))))

range_more : (k : ℕ) → range_with_len 0 (k + 1) ≡ range_with_len 0 k ++ k ∷ []
range_more k = sym (map_id (range_with_len 0 (k + 1))) ∙ (map-range_with_len_more (λ x. x) 0 k k (omega arith) ∙ ap (λ xs. xs ++ k ∷ []) (map_id (range_with_len 0 k)))
  where
    map_id : (xs : List ℕ) → map (λ x. x) xs ≡ xs
    map_id [] = refl
    map_id (x ∷ xs) = ap (λ ys. x ∷ ys) (map_id xs)

kept_more : (test : ℕ → Bool) (k : ℕ) → filter test (range_with_len 0 (k + 1)) ≡ filter test (range_with_len 0 k) ++ filter test (k ∷ [])
kept_more test k = ap (filter test) (range_more k) ∙ filter-append test (range_with_len 0 k) (k ∷ [])

pub one_kept : (test : ℕ → Bool) (values : List Value) (value : Value) (k : ℕ) → numbers_of values ≡ map pos (filter test (range_with_len 0 k)) → test k ≡ true → value.0 ≡ pos 0 +ℤ pos k → numbers_of (values ++ value ∷ []) ≡ map pos (filter test (range_with_len 0 (k + 1)))
one_kept test values value k h p e =
    let last : filter test (k ∷ []) ≡ k ∷ [] = rw p refl in
    let is : value.0 ≡ pos k = e ∙ ap pos (omega arith) in
    put_last values value ∙ (rw (kept_more test k, last, h, is) (sym (map-append pos (filter test (range_with_len 0 k)) (k ∷ []))))

pub none_kept : (test : ℕ → Bool) (values : List Value) (k : ℕ) → numbers_of values ≡ map pos (filter test (range_with_len 0 k)) → test k ≡ false → numbers_of values ≡ map pos (filter test (range_with_len 0 (k + 1)))
none_kept test values k h p =
    let last : filter test (k ∷ []) ≡ [] = rw p refl in
    let end : filter test (range_with_len 0 k) ++ [] ≡ filter test (range_with_len 0 k) = append-nil (filter test (range_with_len 0 k)) in
    rw (kept_more test k, last, end) h
