-- The order of rows of bits is that of their words.
use Rattle.std.proofs.Common.{◌≡◌, ◌≢◌, Fits, w64, subst, Ordering, Less, Equal, Greater, ℕ, zero, suc, ◌+◌, ◌-◌, ◌*◌, ◌/◌, ◌%◌, ◌^◌, ◌<◌, ◌≤◌, ◌==◌, ◌&&◌, Bool, true, false, List, [], ◌∷◌, length, get_or, nat_eq, nat_lt, refl, sym, ap, ◌∙◌, arith}
use Rattle.std.specs.Bool.{beq}
use Rattle.std.specs.Int.{bit_at}
use Rattle.std.specs.Cmp.{bool_cmp_total, tied_then, unsigned_ties}
use Rattle.std.specs.Cmp.Lexicographic.{lists_ties, lists_total, nat_list_cmp_total, pointwise, same_text, slice_cmp, texts_ties}
use Rattle.std.specs.Ordering.{bool_cmp, nat_cmp, eq_by_cmp, is_eq, is_lt, ordering_then, ordering_reverse}
use Rattle.std.proofs.lemmas.Bool.Decides.{nat_tests}
use Rattle.std.proofs.lemmas.Cmp.{ranked}
use Rattle.std.proofs.lemmas.Nat.Bits.{bit_at-suc, bit_at_lowest}
use Rattle.ec_row.specs.Bits.{bit_in, bits_in, IsPacked}
use Rattle.ec_row.proofs.BitLemmas.{get_bits, length_bits, word_within}
use Rattle.ec_row.proofs.OrderLaws.{first_less, front_less, same_equal}

-- ---- two numbers differ first in one bit from the highest down

halves : (C : Type 0) (x y : ℕ) → x < y → (x / 2 < y / 2 → C) → (x / 2 ≡ y / 2 → x % 2 ≡ 0 → y % 2 ≡ 1 → C) → C
halves C x y h low high = by_tested (nat_cmp (x / 2) (y / 2)) refl
  where
    by_tested : (o : Ordering) → o ≡ nat_cmp (x / 2) (y / 2) → C
    by_tested Less e = low (ranked (x / 2) (y / 2) Less e)
    by_tested Equal e = let same : x / 2 ≡ y / 2 = ranked (x / 2) (y / 2) Equal e in high same (omega (arith, h, same)) (omega (arith, h, same))
    by_tested Greater e = let more : y / 2 < x / 2 = ranked (x / 2) (y / 2) Greater e in absurd (omega (arith, h, more))

pub first_bit : (C : Type 0) (w x y : ℕ) → x < y → y < 2 ^ w → ((j : ℕ) → j < w → bit_at x j ≡ 0 → bit_at y j ≡ 1 → ((i : ℕ) → j < i → bit_at x i ≡ bit_at y i) → C) → C
first_bit C zero x y h small found = absurd (omega (arith, h, small))
first_bit C (suc w) x y h small found = halves C x y h (λ low. first_bit C w (x / 2) (y / 2) low (omega (arith, small)) (λ j l a b same. found (suc j) (omega (arith, l)) (bit_at-suc x j ∙ a) (bit_at-suc y j ∙ b) (above j same))) (λ same a b. found 0 (omega arith) (bit_at_lowest x ∙ a) (bit_at_lowest y ∙ b) (highest same))
  where
    above : (j : ℕ) → ((i : ℕ) → j < i → bit_at (x / 2) i ≡ bit_at (y / 2) i) → (i : ℕ) → suc j < i → bit_at x i ≡ bit_at y i
    above j same zero l = absurd (omega (arith, l))
    above j same (suc i) l = bit_at-suc x i ∙ (same i (omega (arith, l)) ∙ sym (bit_at-suc y i))

    highest : x / 2 ≡ y / 2 → (i : ℕ) → 0 < i → bit_at x i ≡ bit_at y i
    highest same zero l = absurd (omega (arith, l))
    highest same (suc i) l = bit_at-suc x i ∙ (ap (λ n. bit_at n i) same ∙ sym (bit_at-suc y i))

-- ---- two lists of words differ first in one word, or the one begins the other

pub first_word : (C : Type 0) (a b : List ℕ) → slice_cmp nat_cmp a b ≡ Less → ((k : ℕ) → k < length a → k < length b → ((i : ℕ) → i < k → get_or a i 0 ≡ get_or b i 0) → get_or a k 0 < get_or b k 0 → C) → (length a < length b → ((i : ℕ) → i < length a → get_or a i 0 ≡ get_or b i 0) → C) → C
first_word C [] [] e differ begins = absurd (let f : is_lt Equal ≡ is_lt Less = ap is_lt e in cc)
first_word C [] (y ∷ b) e differ begins = begins (omega arith) (λ i l. absurd (omega (arith, l)))
first_word C (x ∷ a) [] e differ begins = absurd (let f : is_lt Greater ≡ is_lt Less = ap is_lt e in cc)
first_word C (x ∷ a) (y ∷ b) e differ begins = by_tested (first_word C a b) (nat_cmp x y) refl e
  where
    behind : (n : ℕ) → x ≡ y → ((i : ℕ) → i < n → get_or a i 0 ≡ get_or b i 0) → (i : ℕ) → i < suc n → get_or (x ∷ a) i 0 ≡ get_or (y ∷ b) i 0
    behind n same rest zero l = same
    behind n same rest (suc i) l = rest i (omega (arith, l))

    by_tested : (slice_cmp nat_cmp a b ≡ Less → ((k : ℕ) → k < length a → k < length b → ((i : ℕ) → i < k → get_or a i 0 ≡ get_or b i 0) → get_or a k 0 < get_or b k 0 → C) → (length a < length b → ((i : ℕ) → i < length a → get_or a i 0 ≡ get_or b i 0) → C) → C) → (o : Ordering) → o ≡ nat_cmp x y → ordering_then o (slice_cmp nat_cmp a b) ≡ Less → C
    by_tested again Less s l = differ 0 (omega arith) (omega arith) (λ i h. absurd (omega (arith, h))) (ranked x y Less s)
    by_tested again Equal s l = again l (λ k p q same low. differ (suc k) (omega (arith, p)) (omega (arith, q)) (behind k (ranked x y Equal s) same) low) (λ shorter same. begins (omega (arith, shorter)) (behind (length a) (ranked x y Equal s) same))
    by_tested again Greater s l = absurd (let f : is_lt Greater ≡ is_lt Less = ap is_lt l in cc)

-- ---- bits of places

place_bit : (words : List ℕ) (k j : ℕ) → j < 64 → bit_in words (64 * k + (63 - j)) ≡ (bit_at (get_or words k 0) j == 1)
place_bit words k j h =
    let word : (64 * k + (63 - j)) / 64 ≡ k = omega (arith, h) in
    let bit : 63 - (64 * k + (63 - j)) % 64 ≡ j = omega (arith, h) in
    ap (λ i. bit_at (get_or words i 0) (63 - (64 * k + (63 - j)) % 64) == 1) word ∙ ap (λ i. bit_at (get_or words k 0) i == 1) bit

-- two lists of words have the same bits before the first bit in which they differ
same_before : (a b : List ℕ) (k j : ℕ) → j < 64 → ((i : ℕ) → i < k → get_or a i 0 ≡ get_or b i 0) → ((i : ℕ) → j < i → bit_at (get_or a k 0) i ≡ bit_at (get_or b k 0) i) → (i : ℕ) → i < 64 * k + (63 - j) → bit_in a i ≡ bit_in b i
same_before a b k j h same above i l = by_word (i / 64 == k) refl
  where
    by_word : (t : Bool) → (i / 64 == k) ≡ t → bit_in a i ≡ bit_in b i
    by_word true t =
        let here : i / 64 ≡ k = grind (arith, nat_tests) in
        ap (λ w. bit_at (get_or a w 0) (63 - i % 64) == 1) here ∙ (ap (λ n. n == 1) (above (63 - i % 64) (omega (arith, h, l, here))) ∙ ap (λ w. bit_at (get_or b w 0) (63 - i % 64) == 1) (sym here))
    by_word false t =
        let far : i / 64 ≢ k = λ s. (let u : (i / 64 == k) ≡ true = grind (arith, nat_tests) in cc) in
        ap (λ w. bit_at w (63 - i % 64) == 1) (same (i / 64) (omega (arith, h, l, far)))

module _ (a b : List ℕ) (n m : ℕ) (packed : IsPacked a n) (packed_other : IsPacked b m) where
  -- where bits agree up to the shorter length
  pub shorter_first : n < m → ((i : ℕ) → i < n → bit_in a i ≡ bit_in b i) → slice_cmp bool_cmp (bits_in a n) (bits_in b m) ≡ Less
  shorter_first h same =
      let l = length_bits a n in
      let k = length_bits b m in
      front_less (bits_in a n) (bits_in b m) (omega (arith, h, l, k)) (λ i low.
      let below : i < n = omega (arith, low, l) in
      get_bits a n i false below ∙ (same i below ∙ sym (get_bits b m i false (omega (arith, below, h)))))

  -- where one bit is the first that differs
  place_first : (p : ℕ) → bit_in a p ≡ false → bit_in b p ≡ true → ((i : ℕ) → i < p → bit_in a i ≡ bit_in b i) → slice_cmp bool_cmp (bits_in a n) (bits_in b m) ≡ Less
  place_first p low high same = by_length (nat_lt p n) refl
    where
      within : p < m
      within = by_clear (nat_lt p m) refl
        where
          by_clear : (t : Bool) → nat_lt p m ≡ t → p < m
          by_clear true t = grind (arith, nat_tests)
          by_clear false t = absurd (let past : m ≤ p = grind (arith, nat_tests) in let none = packed_other.clear p past in cc)

      by_length : (t : Bool) → nat_lt p n ≡ t → slice_cmp bool_cmp (bits_in a n) (bits_in b m) ≡ Less
      by_length true t =
          let here : p < n = grind (arith, nat_tests) in
          let l = length_bits a n in
          let k = length_bits b m in
          first_less p (bits_in a n) (bits_in b m) (omega (arith, here, l)) (omega (arith, within, k)) (λ i h. get_bits a n i false (omega (arith, h, here)) ∙ (same i h ∙ sym (get_bits b m i false (omega (arith, h, within))))) (get_bits a n p false here ∙ low) (get_bits b m p false within ∙ high)
      by_length false t =
          let past : n ≤ p = grind (arith, nat_tests) in
          shorter_first (omega (arith, past, within)) (λ i h. same i (omega (arith, h, past)))

  less_words : ((i : ℕ) → Fits w64 (get_or b i 0)) → slice_cmp nat_cmp a b ≡ Less → slice_cmp bool_cmp (bits_in a n) (bits_in b m) ≡ Less
  less_words fits e = first_word (slice_cmp bool_cmp (bits_in a n) (bits_in b m) ≡ Less) a b e differ begins
    where
      differ : (k : ℕ) → k < length a → k < length b → ((i : ℕ) → i < k → get_or a i 0 ≡ get_or b i 0) → get_or a k 0 < get_or b k 0 → slice_cmp bool_cmp (bits_in a n) (bits_in b m) ≡ Less
      differ k within within_other same low = first_bit (slice_cmp bool_cmp (bits_in a n) (bits_in b m) ≡ Less) 64 (get_or a k 0) (get_or b k 0) low (fits k).fits (λ j h none one above.
          place_first (64 * k + (63 - j)) (place_bit a k j h ∙ ap (λ c. c == 1) none) (place_bit b k j h ∙ ap (λ c. c == 1) one) (same_before a b k j h same above))

      begins : length a < length b → ((i : ℕ) → i < length a → get_or a i 0 ≡ get_or b i 0) → slice_cmp bool_cmp (bits_in a n) (bits_in b m) ≡ Less
      begins shorter same =
          let c = packed.count in
          let d = packed_other.count in
          shorter_first (omega (arith, c, d, shorter)) (λ i h. ap (λ w. bit_at w (63 - i % 64) == 1) (same (i / 64) (word_within a n i packed h)))

-- the same words, and so many of their bits
same_words : (a : List ℕ) (n m : ℕ) → IsPacked a n → IsPacked a m → nat_cmp n m ≡ slice_cmp bool_cmp (bits_in a n) (bits_in a m)
same_words a n m packed packed_other = by_tested (nat_cmp n m) refl
  where
    by_tested : (o : Ordering) → o ≡ nat_cmp n m → o ≡ slice_cmp bool_cmp (bits_in a n) (bits_in a m)
    by_tested Less e = sym (shorter_first a a n m packed packed_other (ranked n m Less e) (λ i h. refl))
    by_tested Equal e = sym (same_equal (bits_in a n) (bits_in a m) (ap (bits_in a) (ranked n m Equal e)))
    by_tested Greater e = sym ((lists_total bool_cmp_total).antisymm (bits_in a n) (bits_in a m) ∙ ap ordering_reverse (shorter_first a a m n packed_other packed (ranked n m Greater e) (λ i h. refl)))

pub words_order : (a b : List ℕ) (n m : ℕ) → IsPacked a n → IsPacked b m → ((i : ℕ) → Fits w64 (get_or a i 0)) → ((i : ℕ) → Fits w64 (get_or b i 0)) → ordering_then (slice_cmp nat_cmp a b) (nat_cmp n m) ≡ slice_cmp bool_cmp (bits_in a n) (bits_in b m)
words_order a b n m packed packed_other fits fits_other = by_words (slice_cmp nat_cmp a b) refl
  where
    by_words : (o : Ordering) → slice_cmp nat_cmp a b ≡ o → ordering_then o (nat_cmp n m) ≡ slice_cmp bool_cmp (bits_in a n) (bits_in b m)
    by_words Less e = sym (less_words a b n m packed packed_other fits_other e)
    by_words Equal e =
        let same : a ≡ b = same_text a b (sym (texts_ties a b ∙ ap is_eq e)) in
        same_words a n m packed (subst (λ ws. IsPacked ws m) (sym same) packed_other) ∙ ap (λ ws. slice_cmp bool_cmp (bits_in a n) (bits_in ws m)) same
    by_words Greater e =
        let turned : slice_cmp nat_cmp b a ≡ Less = nat_list_cmp_total.antisymm b a ∙ ap ordering_reverse e in
        sym ((lists_total bool_cmp_total).antisymm (bits_in a n) (bits_in b m) ∙ ap ordering_reverse (less_words b a m n packed_other packed fits turned))

bool_ties : (x y : Bool) → beq x y ≡ eq_by_cmp bool_cmp x y
bool_ties false false = refl
bool_ties false true = refl
bool_ties true false = refl
bool_ties true true = refl

turned_and : (s t : Bool) → (s && t) ≡ (t && s)
turned_and false false = refl
turned_and false true = refl
turned_and true false = refl
turned_and true true = refl

pub words_same : (a b : List ℕ) (n m : ℕ) → IsPacked a n → IsPacked b m → ((i : ℕ) → Fits w64 (get_or a i 0)) → ((i : ℕ) → Fits w64 (get_or b i 0)) → pointwise beq (bits_in a n) (bits_in b m) ≡ (nat_eq n m && is_eq (slice_cmp nat_cmp a b))
words_same a b n m packed packed_other fits fits_other =
    lists_ties bool_cmp bool_ties (bits_in a n) (bits_in b m) ∙ (ap is_eq (sym (words_order a b n m packed packed_other fits fits_other)) ∙ (sym (tied_then (slice_cmp nat_cmp a b) (nat_cmp n m)) ∙ (ap (λ t. is_eq (slice_cmp nat_cmp a b) && t) (sym (unsigned_ties n m)) ∙ turned_and (is_eq (slice_cmp nat_cmp a b)) (nat_eq n m))))
