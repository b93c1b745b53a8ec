-- The number that a word is.
use Rattle.std.proofs.Common.{◌≡◌, ◌≢◌, ℕ, ◌<◌, ◌≤◌, ◌^◌, Bool, true, false, List, Option, Some, None, refl, sym, ap, ◌∙◌, arith}
use Rattle.std.specs.Prelude.{decimal, nat_le, ◌&&◌, if◌then◌else◌}
use Rattle.std.specs.Str.{bytes_eq}
use Rattle.std.specs.Str.Parse.{digits_value}
use Rattle.std.proofs.lemmas.Fmt.{decimal_is_IsNumeral}
use Rattle.std.proofs.lemmas.Slice.Eq.{bytes_eq-Decides}
use Rattle.ec_command.specs.Words.{is_number, number_of}

abbrev if_number : Bool → ℕ → Option ℕ
if_number is n = if is then Some n else None

none_unless : (is : Bool) (n : ℕ) → (is ≡ true → ⊥) → if_number is n ≡ None
none_unless true n never = absurd (never refl)
none_unless false n never = refl

value_is : (word : List ℕ) (n : ℕ) → n < 2 ^ 64 → word ≡ decimal n → digits_value 10 word ≡ n
value_is word n small is = ap (λ (bytes : List ℕ). digits_value 10 bytes) is ∙ (decimal_is_IsNumeral n small).1

is_number-true : (most : ℕ) (word : List ℕ) (n : ℕ) → is_number most word n ≡ true → (1 ≤ n) × (n ≤ most) × (decimal n ≡ word)
is_number-true most word n is = by_parts (nat_le 1 n) (nat_le n most) (bytes_eq (decimal n) word) refl refl refl is
  where
    by_parts : (low high same : Bool) → low ≡ nat_le 1 n → high ≡ nat_le n most → same ≡ bytes_eq (decimal n) word → low && high && same ≡ true → (1 ≤ n) × (n ≤ most) × (decimal n ≡ word)
    by_parts true true true l h s is = (grind (arith, l), grind (arith, h), (bytes_eq-Decides (decimal n) word).0 (sym s))
    by_parts true true false l h s is = absurd (cc)
    by_parts true false same l h s is = absurd (cc)
    by_parts false high same l h s is = absurd (cc)

true-is_number : (most : ℕ) (word : List ℕ) (n : ℕ) → 1 ≤ n → n ≤ most → word ≡ decimal n → is_number most word n ≡ true
true-is_number most word n low high is =
    all_true (nat_le 1 n) (nat_le n most) (bytes_eq (decimal n) word) (grind (arith, low)) (grind (arith, high)) ((bytes_eq-Decides (decimal n) word).1 (sym is))
  where
    all_true : (a b c : Bool) → a ≡ true → b ≡ true → c ≡ true → a && b && c ≡ true
    all_true a b c x y z = rw (x, y, z) refl

-- digits of a number within the range give it
pub number_some : (most n : ℕ) (word : List ℕ) → word ≡ decimal n → n < 2 ^ 64 → 1 ≤ n → n ≤ most → number_of most word ≡ Some n
number_some most n word is small low high =
    ap (λ (v : ℕ). if_number (is_number most word v) v) (value_is word n small is) ∙ ap (λ (b : Bool). if_number b n) (true-is_number most word n low high is)

-- those of another number give none
pub number_out : (most n : ℕ) (word : List ℕ) → word ≡ decimal n → n < 2 ^ 64 → (1 ≤ n → n ≤ most → ⊥) → number_of most word ≡ None
number_out most n word is small out =
    ap (λ (v : ℕ). if_number (is_number most word v) v) (value_is word n small is)
    ∙ none_unless (is_number most word n) n (λ t. out (is_number-true most word n t).0 (is_number-true most word n t).1)

-- nor do other bytes
pub number_none : (most : ℕ) (word : List ℕ) → most < 2 ^ 64 → ((n : ℕ) → n < 2 ^ 64 → word ≢ decimal n) → number_of most word ≡ None
number_none most word small none =
    let v = digits_value 10 word in
    none_unless (is_number most word v) v (λ t. none v (below v (is_number-true most word v t).1) (sym (is_number-true most word v t).2))
  where
    below : (v : ℕ) → v ≤ most → v < 2 ^ 64
    below v h = omega (arith, small)
