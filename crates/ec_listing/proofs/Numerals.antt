-- The texts of whole numbers.
use Rattle.std.proofs.Common.{◌≡◌, ℕ, suc, ◌+◌, ◌%◌, ◌≤◌, ◌<◌, ◌^◌, ◌==◌, nat_le, Bool, true, false, not, ◌&&◌, List, [], ◌∷◌, ◌++◌, decimal, ℤ, pos, negsuc, refl, arith}
use Rattle.std.specs.List.{list_all}
use Rattle.std.specs.Prelude.{nat_abs}
use Rattle.std.proofs.Math.Nat.{mod-lt}
use Rattle.std.proofs.lemmas.Bool.Decides.{nat_tests}
use Rattle.std.proofs.lemmas.Fmt.{decimal_by_steps, signed_decimal_injective}
use Rattle.ec_logic.specs.Narrative.{integer_text}
use Rattle.ec_logic.proofs.Tests.{and_parts, test_cases, same_number}
use Rattle.ec_listing.proofs.Decoding.{is_parting, is_plain_text}

abbrev pub is_digit : ℕ → Bool
is_digit b = nat_le 48 b && nat_le b 57

-- a text of digits, and at least one
abbrev pub is_numeral : List ℕ → Bool
is_numeral [] = false
is_numeral (b ∷ bs) = is_digit b && list_all is_digit bs

digit_is : (n : ℕ) → n < 10 → is_digit (48 + n) ≡ true
digit_is n h = grind (arith, nat_tests)

all_push : (test : ℕ → Bool) (bs : List ℕ) (b : ℕ) → list_all test bs ≡ true → test b ≡ true → list_all test (bs ++ b ∷ []) ≡ true
all_push test [] b h k = rw k refl
all_push test (c ∷ bs) b h k = let both = and_parts (test c) (list_all test bs) h in rw (both.0, all_push test bs b both.1 k) refl

numeral_push : (bs : List ℕ) (b : ℕ) → is_numeral bs ≡ true → is_digit b ≡ true → is_numeral (bs ++ b ∷ []) ≡ true
numeral_push [] b h k = cc
numeral_push (c ∷ bs) b h k = let both = and_parts (is_digit c) (list_all is_digit bs) h in rw (both.0, all_push is_digit bs b both.1 k) refl

pub decimal_numeral : (n : ℕ) → n < 2 ^ 64 → is_numeral (decimal n) ≡ true
decimal_numeral n h = decimal_by_steps (λ m ds. is_numeral ds ≡ true)
    (λ m l. rw (digit_is m l) refl)
    (λ m ds l e. numeral_push ds (48 + m % 10) e (digit_is (m % 10) (mod-lt m (omega arith)))) n h

-- ---- what such bytes aren't

pub digit_plain : (b : ℕ) → is_digit b ≡ true → not (is_parting b) ≡ true
digit_plain b h = test_cases (not (is_parting b) ≡ true) (b == 40) (λ e. let s = same_number b 40 e in absurd (no (rw s at h))) (λ e. test_cases (not (is_parting b) ≡ true) (b == 41) (λ f. let s = same_number b 41 f in absurd (no (rw s at h)))
    (λ f. test_cases (not (is_parting b) ≡ true) (b == 44) (λ g. let s = same_number b 44 g in absurd (no (rw s at h))) (λ g. rw (e, f, g) refl)))
  where
    no : false ≡ true → ⊥
    no e = cc

pub all_weaker : (p q : ℕ → Bool) → ((b : ℕ) → p b ≡ true → q b ≡ true) → (bs : List ℕ) → list_all p bs ≡ true → list_all q bs ≡ true
all_weaker p q w [] h = refl
all_weaker p q w (b ∷ bs) h = let both = and_parts (p b) (list_all p bs) h in rw (w b both.0, all_weaker p q w bs both.1) refl

pub numeral_all : (bs : List ℕ) → is_numeral bs ≡ true → list_all is_digit bs ≡ true
numeral_all [] h = refl
numeral_all (b ∷ bs) h = h

-- ---- whole numbers

-- a small number, whose text can be read back
abbrev pub IsSmall : ℤ → Type 0
IsSmall z = nat_abs z ≤ 1000000

pub integer_plain : (z : ℤ) → IsSmall z → is_plain_text (integer_text z) ≡ true
integer_plain (pos n) h = all_weaker is_digit (λ b. not (is_parting b)) digit_plain (decimal n) (numeral_all (decimal n) (decimal_numeral n (omega (arith, h))))
integer_plain (negsuc n) h = all_weaker is_digit (λ b. not (is_parting b)) digit_plain (decimal (suc n)) (numeral_all (decimal (suc n)) (decimal_numeral (suc n) (omega (arith, h))))

pub integer_same : (y z : ℤ) → IsSmall y → IsSmall z → integer_text y ≡ integer_text z → y ≡ z
integer_same (pos m) (pos n) h k e = signed_decimal_injective (pos m) (pos n) (omega (arith, h)) (omega (arith, k)) e
integer_same (pos m) (negsuc n) h k e = signed_decimal_injective (pos m) (negsuc n) (omega (arith, h)) (omega (arith, k)) e
integer_same (negsuc m) (pos n) h k e = signed_decimal_injective (negsuc m) (pos n) (omega (arith, h)) (omega (arith, k)) e
integer_same (negsuc m) (negsuc n) h k e = signed_decimal_injective (negsuc m) (negsuc n) (omega (arith, h)) (omega (arith, k)) e
