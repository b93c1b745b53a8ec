-- Places in a range, below a count and among constants.
use Rattle.std.proofs.Common.{◌≡◌, ℕ, zero, suc, ◌+◌, ◌<◌, ◌≤◌, ◌^◌, nat_lt, Bool, true, false, ◌&&◌, if◌then◌else◌, is_some, ℤ, pos, negsuc, ◌+ℤ◌, neg_ℤ, ◌≤ℤ◌, ◌<ℤ◌, int_le, int_lt, List, [], ◌∷◌, length, map, filter, get_or, slice_get, Option, Some, None, option_map, refl, ap, ◌∙◌, arith}
use Rattle.std.specs.List.{range_with_len}
use Rattle.std.proofs.lemmas.Int.{ints}
use Rattle.std.proofs.lemmas.Bool.Decides.{nat_tests}
use Rattle.std.proofs.lemmas.Option.{slice_get-map, slice_get_past}
use Rattle.std.proofs.Math.Path.{fun_ext}
use Rattle.ec_logic.proofs.Tests.{and_parts}
use Rattle.ec_logic.specs.Extent.{Extent, numbers, members, size_of, rank, value_at, natural, passing, passing_at}
use Rattle.ec_atom.specs.Listing.{is_place, has_place, place_if, ListsConstants}

-- ---- in a range

module _ (least v : ℤ) (size : ℕ) (h : is_some (rank (numbers least size) v) ≡ true) where
  inside : (int_le least v && int_lt v (least +ℤ pos size)) ≡ true
  inside = by_test (int_le least v && int_lt v (least +ℤ pos size)) h
    where
      by_test : (b : Bool) → is_some (if b then natural (v +ℤ neg_ℤ least) else None) ≡ true → b ≡ true
      by_test true h = refl
      by_test false h = cc

  ends : (int_le least v ≡ true) × (int_lt v (least +ℤ pos size) ≡ true)
  ends = and_parts (int_le least v) (int_lt v (least +ℤ pos size)) inside

  pub number_low : least ≤ℤ v
  number_low = omega (arith, ints, ends.0)

  pub number_high : v <ℤ (least +ℤ pos size)
  number_high = omega (arith, ints, ends.1)

  pub number_place : (n : ℕ) → pos n ≡ v +ℤ neg_ℤ least → rank (numbers least size) v ≡ Some n
  number_place n e = rw (inside, ← e) refl

-- ---- below a count

passing_all : (from n : ℕ) → passing (λ k. true) from n ≡ n
passing_all from zero = refl
passing_all from (suc n) = ap suc (passing_all (suc from) n)

pub size_of_places : (size : ℕ) → size_of (members size (λ k. true)) ≡ size
size_of_places size = passing_all 0 size

module _ (v : ℤ) (size : ℕ) (h : is_some (rank (members size (λ k. true)) v) ≡ true) where
  place_facts : (n : ℕ) × (v ≡ pos n) × (n < size)
  place_facts = cases v refl h
    where
      cases : (w : ℤ) → v ≡ w → is_some (rank (members size (λ k. true)) w) ≡ true → (n : ℕ) × (v ≡ pos n) × (n < size)
      cases (pos n) e h = (n, e, below n h)
        where
          below : (n : ℕ) → is_some (rank (members size (λ k. true)) (pos n)) ≡ true → n < size
          below n h = by_test (nat_lt n size) refl h
            where
              by_test : (b : Bool) → nat_lt n size ≡ b → is_some (if b && true then Some (passing (λ k. true) 0 n) else None) ≡ true → n < size
              by_test true e h = grind (arith, nat_tests)
              by_test false e h = cc
      cases (negsuc n) e h = cc

  pub place_low : pos 0 ≤ℤ v
  place_low = let e = place_facts.1 in rw e (omega (arith, ints))

  pub place_high : v <ℤ pos size
  place_high = let e = place_facts.1 in let l = place_facts.2 in rw e (omega (arith, ints, l))

  pub place_same : (n : ℕ) → pos n ≡ v +ℤ neg_ℤ (pos 0) → rank (members size (λ k. true)) v ≡ Some n
  place_same n e =
      let m = place_facts.0 in
      let is : v ≡ pos m = place_facts.1 in
      let same : n ≡ m = grind (arith, ints) in
      let low : nat_lt m size ≡ true = let l = place_facts.2 in grind (arith, nat_tests) in
      rw (is, low, passing_all 0 m, same) refl

pub value_of_place : (size k : ℕ) → k < size → value_at (members size (λ k. true)) k ≡ pos k
value_of_place size k h = ap pos (from 0 size k h ∙ omega arith)
  where
    from : (f n k : ℕ) → k < n → passing_at (λ j. true) f n k ≡ f + k
    from f zero k h = absurd (omega (arith, h))
    from f (suc n) zero h = omega arith
    from f (suc n) (suc k) h = let r = from (suc f) n k (omega (arith, h)) in omega (arith, r)

-- ---- among constants

filter_at : (test : ℕ → Bool) (f n k : ℕ) → k < passing test f n → get_or (filter test (range_with_len f n)) k 0 ≡ passing_at test f n k
filter_at test f zero k h = absurd (omega (arith, h))
filter_at test f (suc n) zero h = let s : f + 1 ≡ suc f = omega arith in rw s (by_test (test f) h (filter_at test (suc f) n zero))
  where
    by_test : (t : Bool) → 0 < (if t then suc (passing test (suc f) n) else passing test (suc f) n) → (0 < passing test (suc f) n → get_or (filter test (range_with_len (suc f) n)) 0 0 ≡ passing_at test (suc f) n 0)
        → get_or (if t then f ∷ filter test (range_with_len (suc f) n) else filter test (range_with_len (suc f) n)) 0 0 ≡ (if t then f else passing_at test (suc f) n 0)
    by_test true h next = refl
    by_test false h next = next h
filter_at test f (suc n) (suc k) h = let s : f + 1 ≡ suc f = omega arith in rw s (by_test (test f) h (filter_at test (suc f) n k) (filter_at test (suc f) n (suc k)))
  where
    by_test : (t : Bool) → suc k < (if t then suc (passing test (suc f) n) else passing test (suc f) n)
        → (k < passing test (suc f) n → get_or (filter test (range_with_len (suc f) n)) k 0 ≡ passing_at test (suc f) n k) → (suc k < passing test (suc f) n → get_or (filter test (range_with_len (suc f) n)) (suc k) 0 ≡ passing_at test (suc f) n (suc k))
        → get_or (if t then f ∷ filter test (range_with_len (suc f) n) else filter test (range_with_len (suc f) n)) (suc k) 0 ≡ (if t then passing_at test (suc f) n k else passing_at test (suc f) n (suc k))
    by_test true h next other = next (omega (arith, h))
    by_test false h next other = other h

filter_count : (test : ℕ → Bool) (f n : ℕ) → length (filter test (range_with_len f n)) ≡ passing test f n
filter_count test f zero = refl
filter_count test f (suc n) = let s : f + 1 ≡ suc f = omega arith in rw s (by_test (test f) (filter_count test (suc f) n))
  where
    by_test : (t : Bool) → length (filter test (range_with_len (suc f) n)) ≡ passing test (suc f) n → length (if t then f ∷ filter test (range_with_len (suc f) n) else filter test (range_with_len (suc f) n)) ≡ (if t then suc (passing test (suc f) n) else passing test (suc f) n)
    by_test true h = ap suc h
    by_test false h = h

pub passing_few : (test : ℕ → Bool) (f n : ℕ) → passing test f n ≤ n
passing_few test f zero = omega arith
passing_few test f (suc n) = by_test (test f) (passing_few test (suc f) n)
  where
    by_test : (t : Bool) → passing test (suc f) n ≤ n → (if t then suc (passing test (suc f) n) else passing test (suc f) n) ≤ suc n
    by_test true h = omega (arith, h)
    by_test false h = omega (arith, h)

range_at : (f n k : ℕ) → k < n → slice_get (range_with_len f n) k ≡ Some (f + k)
range_at f zero k l = absurd (omega (arith, l))
range_at f (suc n) zero l = ap Some (omega arith)
range_at f (suc n) (suc k) l = range_at (f + 1) n k (omega (arith, l)) ∙ ap Some (omega arith)

module _ (places : List (Option ℕ)) (constants : List ℕ) (lists : ListsConstants places constants) where
  abbrev extent : Extent
  extent = members (length places) (has_place places)

  pub constants_count : length constants ≡ size_of extent
  constants_count = ap length lists.constants_are ∙ filter_count (has_place places) 0 (length places)

  pub constants_few : length constants < 2 ^ 62
  constants_few = let e = constants_count in let l = passing_few (has_place places) 0 (length places) in let f = lists.few in omega (arith, e, l, f)

  pub constant_at : (k : ℕ) → k < size_of extent → pos (get_or constants k 0) ≡ value_at extent k
  constant_at k h = ap pos (ap (λ xs. get_or xs k 0) lists.constants_are ∙ filter_at (has_place places) 0 (length places) k h)

  at_place : (n : ℕ) → n < length places → slice_get places n ≡ Some (place_if (has_place places) n)
  at_place n h = ap (λ xs. slice_get xs n) lists.places_are ∙ (slice_get-map (place_if (has_place places)) (range_with_len 0 (length places)) n ∙ (ap (option_map (place_if (has_place places))) (range_at 0 (length places) n h) ∙ ap (λ m. Some (place_if (has_place places) m)) (omega arith)))

  -- a constant with a place has it in the table
  pub constant_place : (v : ℤ) → is_some (rank extent v) ≡ true → (n : ℕ) × (r : ℕ) × (v ≡ pos n) × (n < length places) × (slice_get places n ≡ Some (Some r)) × (rank extent v ≡ Some r)
  constant_place (pos n) h = by_test (nat_lt n (length places) && has_place places n) refl h
    where
      by_test : (b : Bool) → (nat_lt n (length places) && has_place places n) ≡ b → is_some (if b then Some (passing (has_place places) 0 n) else None) ≡ true
          → (m : ℕ) × (r : ℕ) × (pos n ≡ pos m) × (m < length places) × (slice_get places m ≡ Some (Some r)) × (rank extent (pos n) ≡ Some r)
      by_test true e h =
          let both = and_parts (nat_lt n (length places)) (has_place places n) e in
          let low : n < length places = grind (arith, nat_tests) in
          let there : slice_get places n ≡ Some (Some (passing (has_place places) 0 n)) = at_place n low ∙ ap Some (rw both.1 refl) in
          (n, passing (has_place places) 0 n, refl, low, there, rw e refl)
      by_test false e h = cc
  constant_place (negsuc n) h = cc

-- ---- a table made for a test

module _ (test : ℕ → Bool) (places : List (Option ℕ)) (n : ℕ) (e : places ≡ map (place_if test) (range_with_len 0 n)) (past : (k : ℕ) → n ≤ k → test k ≡ false) where
  has_place_at : (k : ℕ) → has_place places k ≡ test k
  has_place_at k = by_order (nat_lt k n) refl
    where
      placed : (b : Bool) → test k ≡ b → is_place (Some (place_if test k)) ≡ b
      placed true h = rw h refl
      placed false h = rw h refl

      by_order : (b : Bool) → nat_lt k n ≡ b → has_place places k ≡ test k
      by_order true h =
          let low : k < n = grind (arith, nat_tests) in
          let there : slice_get places k ≡ Some (place_if test k) = ap (λ xs. slice_get xs k) e ∙ (slice_get-map (place_if test) (range_with_len 0 n) k ∙ (ap (option_map (place_if test)) (range_at 0 n k low) ∙ ap (λ m. Some (place_if test m)) (omega arith))) in
          rw there (placed (test k) refl)
      by_order false h =
          let high : n ≤ k = grind (arith, nat_tests) in
          let count : length places ≡ n = ap length e ∙ length_map_range 0 n in
          rw (slice_get_past places k (omega (arith, high, count)), past k high) refl
        where
          length_map_range : (f m : ℕ) → length (map (place_if test) (range_with_len f m)) ≡ m
          length_map_range f zero = refl
          length_map_range f (suc m) = ap suc (length_map_range (f + 1) m)

  pub test_is : has_place places ≡ test
  test_is = fun_ext has_place_at

read_place : (places : List (Option ℕ)) (n r x : ℕ) → slice_get places n ≡ Some (Some r) → Some x ≡ get_or places n (Some x) → x ≡ r
read_place [] n r x h e = cc
read_place (p ∷ places) zero r x h e = cc
read_place (p ∷ places) (suc n) r x h e = read_place places n r x h e

-- what the table has at the number of a constant is its place
pub place_read : (places : List (Option ℕ)) (constants : List ℕ) (lists : ListsConstants places constants) (v : ℤ) (n x : ℕ) → is_some (rank (members (length places) (has_place places)) v) ≡ true → pos n ≡ v +ℤ neg_ℤ (pos 0) → Some x ≡ get_or places n (Some x) → rank (members (length places) (has_place places)) v ≡ Some x
place_read places constants lists v n x h d e =
    let found = constant_place places constants lists v h in
    let m = found.0 in
    let is : v ≡ pos m = found.2 in
    let same : n ≡ m = grind (arith, ints) in
    let there : slice_get places n ≡ Some (Some found.1) = rw same found.4 in
    let x-is = read_place places n found.1 x there e in
    rw x-is found.5
