-- Truth values in words, place by place.
use Rattle.std.proofs.Common.{◌≡◌, ◌≢◌, ℕ, zero, suc, ◌+◌, ◌-◌, ◌/◌, ◌%◌, ◌<◌, ◌==◌, Bool, true, false, List, [], ◌∷◌, length, get_or, set, replicate, slice_get, Some, refl, sym, ap, ◌∙◌, arith}
use Rattle.std.specs.Int.{bit_at, w64}
use Rattle.std.proofs.lemmas.Bool.Decides.{nat_tests}
use Rattle.std.proofs.lemmas.List.{get_or-set_same, get_or-set_other, get_or-replicate, length-set}
use Rattle.std.proofs.lemmas.List.FromFn.{length-map-range_with_len, get_or-map-range_with_len}
use Rattle.std.proofs.lemmas.Nat.Bits.{bit_at-zero, bit_at_set_same, bit_at_set_other, bit_at_clear_same, bit_at_clear_other}
use Rattle.std.proofs.lemmas.Option.{slice_get-get_or}
use Rattle.ec_row.specs.Bits.{bit_in, bits_in, with_bit, IsPacked}

pub length_bits : (words : List ℕ) (n : ℕ) → length (bits_in words n) ≡ n
length_bits words n = length-map-range_with_len (bit_in words) 0 n

pub word_within : (words : List ℕ) (n i : ℕ) → IsPacked words n → i < n → i / 64 < length words
word_within words n i packed h = let c = packed.count in let d : i / 64 < (n + 63) / 64 = omega (arith, h) in omega (arith, c, d)

pub get_bits : (words : List ℕ) (n i : ℕ) (d : Bool) → i < n → get_or (bits_in words n) i d ≡ bit_in words i
get_bits words n i d h = get_or-map-range_with_len (bit_in words) 0 n i i d h (omega arith)

pub bit_read : (words : List ℕ) (n i : ℕ) → i < n → slice_get (bits_in words n) i ≡ Some (bit_in words i)
bit_read words n i h = let l = length_bits words n in slice_get-get_or (bits_in words n) i false (omega (arith, h, l)) ∙ ap Some (get_bits words n i false h)

-- lists with the same items
pub same_items : {X : Type 0} (xs ys : List X) → length xs ≡ length ys → ((i : ℕ) (d : X) → i < length ys → get_or xs i d ≡ get_or ys i d) → xs ≡ ys
same_items [] [] e h = refl
same_items [] (y ∷ ys) e h = absurd (omega (arith, e))
same_items (x ∷ xs) [] e h = absurd (omega (arith, e))
same_items {X} (x ∷ xs) (y ∷ ys) e h =
    let first : x ≡ y = h 0 x (omega arith) in
    let rest = same_items xs ys (omega (arith, e)) (λ i d l. h (suc i) d (omega (arith, l))) in
    ap (λ (z : X). z ∷ xs) first ∙ ap (λ (zs : List X). y ∷ zs) rest

-- ---- all false

word_none : (k i : ℕ) → ◌≡◌ {A = ℕ} (get_or (replicate k 0) i 0) 0
word_none zero i = refl
word_none (suc k) zero = refl
word_none (suc k) (suc i) = word_none k i

none_set : (k i : ℕ) → bit_in (replicate k 0) i ≡ false
none_set k i = rw (word_none k (i / 64), bit_at-zero (63 - i % 64)) refl

length_none : {X : Type 0} (k : ℕ) (x : X) → length (replicate k x) ≡ k
length_none zero x = refl
length_none (suc k) x = ap suc (length_none k x)

pub bits_none : (words : List ℕ) (k n : ℕ) → words ≡ replicate k 0 → bits_in words n ≡ replicate n false
bits_none words k n e = same_items (bits_in words n) (replicate n false) (length_bits words n ∙ sym (length_none n false)) (λ i d h.
    let low : i < n = let l = length_none n false in omega (arith, h, l) in
    get_bits words n i d low ∙ (ap (λ ws. bit_in ws i) e ∙ (none_set k i ∙ sym (get_or-replicate n i false d low))))

pub packed_none : (words : List ℕ) (k n : ℕ) → words ≡ replicate k 0 → k ≡ (n + 63) / 64 → IsPacked words n
packed_none words k n e c = record { count = ap length e ∙ (length_none k 0 ∙ c); clear = λ i h. ap (λ ws. bit_in ws i) e ∙ none_set k i }

-- ---- one place set

same_place : (i j : ℕ) → i / 64 ≡ j / 64 → 63 - i % 64 ≡ 63 - j % 64 → i ≡ j
same_place i j e f = omega (arith, e, f)

with_bit_same : (word k : ℕ) (bit : Bool) → k < 64 → (bit_at (with_bit word k bit) k == 1) ≡ bit
with_bit_same word k true h = rw (bit_at_set_same w64 word k h) refl
with_bit_same word k false h = rw (bit_at_clear_same w64 word k h) refl

with_bit_other : (word k i : ℕ) (bit : Bool) → k < 64 → i < 64 → i ≢ k → bit_at (with_bit word k bit) i ≡ bit_at word i
with_bit_other word k i true h l e = bit_at_set_other w64 word k h i e
with_bit_other word k i false h l e = bit_at_clear_other w64 word k h i l e

module _ (words : List ℕ) (i : ℕ) (bit : Bool) (within : i / 64 < length words) where
  abbrev k : ℕ
  k = 63 - i % 64

  abbrev changed : List ℕ
  changed = set words (i / 64) (with_bit (get_or words (i / 64) 0) k bit)

  pub bit_same : bit_in changed i ≡ bit
  bit_same = ap (λ w. bit_at w k == 1) (get_or-set_same words (i / 64) (with_bit (get_or words (i / 64) 0) k bit) 0 within) ∙ with_bit_same (get_or words (i / 64) 0) k bit (omega arith)

  pub bit_other : (j : ℕ) → j ≢ i → bit_in changed j ≡ bit_in words j
  bit_other j e = by_word (j / 64 == i / 64) refl
    where
      by_word : (b : Bool) → (j / 64 == i / 64) ≡ b → bit_in changed j ≡ bit_in words j
      by_word true t =
          let here : j / 64 ≡ i / 64 = grind (arith, nat_tests) in
          let apart : 63 - j % 64 ≢ k = λ s. e (same_place j i here s) in
          let other = with_bit_other (get_or words (i / 64) 0) k (63 - j % 64) bit (omega arith) (omega arith) apart in
          let read : get_or changed (j / 64) 0 ≡ with_bit (get_or words (i / 64) 0) k bit = ap (λ m. get_or changed m 0) here ∙ get_or-set_same words (i / 64) (with_bit (get_or words (i / 64) 0) k bit) 0 within in
          ap (λ w. bit_at w (63 - j % 64) == 1) read ∙ (ap (λ b. b == 1) other ∙ ap (λ m. bit_at (get_or words m 0) (63 - j % 64) == 1) (sym here))
      by_word false t =
          let far : j / 64 ≢ i / 64 = λ s. (let u : (j / 64 == i / 64) ≡ true = grind (arith, nat_tests) in cc) in
          ap (λ w. bit_at w (63 - j % 64) == 1) (get_or-set_other words (i / 64) (j / 64) (with_bit (get_or words (i / 64) 0) k bit) 0 far)

  pub bits_set : (n : ℕ) → i < n → bits_in changed n ≡ set (bits_in words n) i bit
  bits_set n h =
      let l = length_bits words n in
      let s = length-set (bits_in words n) i bit in
      same_items (bits_in changed n) (set (bits_in words n) i bit) (length_bits changed n ∙ sym (s ∙ l)) (λ j d low.
      let below : j < n = omega (arith, low, s, l) in
      get_bits changed n j d below ∙ by_place j d below (j == i) refl)
    where
      by_place : (j : ℕ) (d : Bool) → j < n → (b : Bool) → (j == i) ≡ b → bit_in changed j ≡ get_or (set (bits_in words n) i bit) j d
      by_place j d low true t =
          let here : j ≡ i = grind (arith, nat_tests) in
          let l = length_bits words n in
          rw here (bit_same ∙ sym (get_or-set_same (bits_in words n) i bit d (omega (arith, h, l))))
      by_place j d low false t =
          let far : j ≢ i = λ s. (let u : (j == i) ≡ true = grind (arith, nat_tests) in cc) in
          bit_other j far ∙ (sym (get_bits words n j d low) ∙ sym (get_or-set_other (bits_in words n) i j bit d far))

  pub packed_set : (n : ℕ) → i < n → IsPacked words n → IsPacked changed n
  packed_set n h packed = record {
    count = length-set words (i / 64) (with_bit (get_or words (i / 64) 0) k bit) ∙ packed.count;
    clear = λ j past. bit_other j (λ s. absurd (omega (arith, h, past, s))) ∙ packed.clear j past;
  }
