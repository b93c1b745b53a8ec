-- The bytes of a token are ASCII.
use Rattle.std.proofs.Common.{◌≡◌, ℕ, zero, suc, ◌<◌, Bool, true, false, not, ◌&&◌, List, [], ◌∷◌, refl, arith, Some, None, cond}
use Rattle.std.specs.List.{list_all}
use Rattle.std.specs.Str.{IsAscii, IsUtf8}
use Rattle.std.proofs.lemmas.Str.{IsUtf8-from_ascii}
use Rattle.std.proofs.lemmas.Bool.Decides.{nat_tests}
use Rattle.ec_lex.specs.declared.token.Kind.{Kind}
use Rattle.ec_lex.specs.declared.token.Kind.TheVariants.{Upper, Lower, Number, Load, Choice, Sign}
use Rattle.ec_lex.specs.Bytes.{is_upper, is_lower, is_digit, is_word, is_text, is_token, signs, bad_in}
use Rattle.ec_lex.proofs.Longest.{and_both, among_has}

all_ascii : (p : ℕ → Bool) → ((b : ℕ) → p b ≡ true → b < 128) → (xs : List ℕ) → list_all p xs ≡ true → IsAscii xs
all_ascii p pass [] h i = omega arith
all_ascii p pass (x ∷ xs) h zero = pass x (and_both (p x) (list_all p xs) h).0
all_ascii p pass (x ∷ xs) h (suc i) = all_ascii p pass xs (and_both (p x) (list_all p xs) h).1 i

cons_ascii : (x : ℕ) (xs : List ℕ) → x < 128 → IsAscii xs → IsAscii (x ∷ xs)
cons_ascii x xs l a zero = l
cons_ascii x xs l a (suc i) = a i

upper_low : (b : ℕ) → is_upper b ≡ true → b < 128
upper_low b h = grind (arith, nat_tests, h)

lower_low : (b : ℕ) → is_lower b ≡ true → b < 128
lower_low b h = grind (arith, nat_tests, h)

digit_low : (b : ℕ) → is_digit b ≡ true → b < 128
digit_low b h = grind (arith, nat_tests, h)

word_low : (b : ℕ) → is_word b ≡ true → b < 128
word_low b h = grind (arith, nat_tests, h)

text_low : (b : ℕ) → is_text b ≡ true → b < 128
text_low b h = grind (arith, nat_tests, h)

abbrev is_low : ℕ → Bool
is_low b = is_text b

pub token_ascii : (k : Kind) (w : List ℕ) → is_token k w ≡ true → IsAscii w
token_ascii Upper [] h = absurd cc
token_ascii Upper (b ∷ bs) h = let k = and_both (is_upper b) (list_all is_word bs) h in cons_ascii b bs (upper_low b k.0) (all_ascii is_word word_low bs k.1)
token_ascii Lower [] h = absurd cc
token_ascii Lower (b ∷ bs) h = let k = and_both (is_lower b) (list_all is_word bs) h in cons_ascii b bs (lower_low b k.0) (all_ascii is_word word_low bs k.1)
token_ascii Number [] h = absurd cc
token_ascii Number (b ∷ bs) h = let k = and_both (is_digit b) (list_all is_digit bs) h in cons_ascii b bs (digit_low b k.0) (all_ascii is_digit digit_low bs k.1)
token_ascii Load w h = absurd cc
token_ascii Choice w h = absurd cc
token_ascii Sign w h = all_ascii is_low text_low w (among_has (list_all is_low) signs w refl h)

pub token_utf8 : (k : Kind) (w : List ℕ) → is_token k w ≡ true → IsUtf8 w
token_utf8 k w h = IsUtf8-from_ascii w (token_ascii k w h)

text_by : (b : ℕ) (t : List ℕ) (x : Bool) → cond (not x) (Some b) (bad_in t) ≡ None → (bad_in t ≡ None → list_all is_text t ≡ true) → (x && list_all is_text t) ≡ true
text_by b t true h f = f h
text_by b t false h f = cc

pub text_passes : (t : List ℕ) → bad_in t ≡ None → list_all is_text t ≡ true
text_passes [] h = refl
text_passes (b ∷ t) h = text_by b t (is_text b) h (text_passes t)

pub text_utf8 : (t : List ℕ) → bad_in t ≡ None → IsUtf8 t
text_utf8 t h = IsUtf8-from_ascii t (all_ascii is_text text_low t (text_passes t h))
