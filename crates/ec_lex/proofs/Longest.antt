-- The longest token at the front.
use Rattle.std.proofs.Common.{one-add, ◌≡◌, ℕ, zero, suc, ◌+◌, ◌≤◌, Bool, true, false, ◌&&◌, ◌||◌, cond, List, [], ◌∷◌, length, take, refl, ap, subst, ◌==◌, not, arith, rules, inl, inr, ◌⊎◌, Some, None}
use Rattle.std.specs.List.{list_all, list_any, prefix_len}
use Rattle.std.specs.Str.{bytes_eq}
use Rattle.std.proofs.lemmas.Grind.{common_steps}
use Rattle.std.proofs.lemmas.Bool.Decides.{nat_tests}
use Rattle.std.proofs.lemmas.List.Sums.{prefix_len-le-length}
use Rattle.std.proofs.lemmas.Slice.Eq.{bytes_eq-Decides}
use Rattle.ec_lex.specs.declared.token.Kind.{Kind}
use Rattle.ec_lex.specs.declared.token.Kind.TheVariants.{Upper, Lower, Number, Load, Choice, Sign}
use Rattle.ec_lex.specs.Bytes.{is_blank, is_upper, is_lower, is_digit, is_word, is_token, signs, first_prefix, IsLongest, BeginsNone}

pub and_both : (a b : Bool) → (a && b) ≡ true → (a ≡ true) × (b ≡ true)
and_both true b h = (refl, h)
and_both false b h = cc

run_more : (p : ℕ → Bool) (x : ℕ) (xs : List ℕ) (b : Bool) → p x ≡ b → list_all p (take (prefix_len p xs) xs) ≡ true → list_all p (take (cond b (1 + prefix_len p xs) 0) (x ∷ xs)) ≡ true
run_more p x xs true e h = rw (one-add, e) h
run_more p x xs false e h = refl

pub run_passes : (p : ℕ → Bool) (xs : List ℕ) → list_all p (take (prefix_len p xs) xs) ≡ true
run_passes p [] = refl
run_passes p (x ∷ xs) = run_more p x xs (p x) refl (run_passes p xs)

pub run_longest : (p : ℕ → Bool) (n : ℕ) (xs : List ℕ) → list_all p (take n xs) ≡ true → n ≤ length xs → n ≤ prefix_len p xs
run_longest p zero xs h l = omega arith
run_longest p (suc n) [] h l = omega arith
run_longest p (suc n) (x ∷ xs) h l =
    let k = and_both (p x) (list_all p (take n xs)) h in
    let r = run_longest p n xs k.1 (omega arith) in
    rw k.0 (omega arith)

or_cases : (a b : Bool) → (a || b) ≡ true → (a ≡ true) ⊎ (b ≡ true)
or_cases true b h = inl refl
or_cases false b h = inr h

-- what each word of a table has, a word among them has
pub among_has : (p : List ℕ → Bool) (ss : List (List ℕ)) (w : List ℕ) → list_all p ss ≡ true → list_any (λ s. bytes_eq s w) ss ≡ true → p w ≡ true
among_has p [] w t h = cc
among_has p (s ∷ ss) w t h =
    let k = and_both (p s) (list_all p ss) t in
    elim (or_cases (bytes_eq s w) (list_any (λ s. bytes_eq s w) ss) h) [ inl e ↦ let g = (bytes_eq-Decides s w).0 e in subst (λ z. p z ≡ true) g k.0 | inr e ↦ among_has p ss w k.1 e ]

-- a byte that begins a sign
abbrev pub begins_sign : ℕ → Bool
begins_sign b = not (is_upper b || is_lower b || is_digit b || is_blank b || b == 10 || b == 59)

abbrev is_begun : List ℕ → Bool
is_begun [] = false
is_begun (b ∷ bs) = begins_sign b

pub sign_begins : (b : ℕ) (bs : List ℕ) → is_token Sign (b ∷ bs) ≡ true → begins_sign b ≡ true
sign_begins b bs h = among_has is_begun signs (b ∷ bs) refl h

pub upper_begins : (k : Kind) (b : ℕ) (bs : List ℕ) → is_upper b ≡ true → is_token k (b ∷ bs) ≡ true → list_all is_word bs ≡ true
upper_begins Upper b bs u h = (and_both (is_upper b) (list_all is_word bs) h).1
upper_begins Lower b bs u h = let l = (and_both (is_lower b) (list_all is_word bs) h).0 in absurd (grind (arith, nat_tests, l, u))
upper_begins Number b bs u h = let l = (and_both (is_digit b) (list_all is_digit bs) h).0 in absurd (grind (arith, nat_tests, l, u))
upper_begins Load b bs u h = absurd cc
upper_begins Choice b bs u h = absurd cc
upper_begins Sign b bs u h = let s = sign_begins b bs h in absurd (grind (arith, nat_tests, s, u))

upper_goes : (k : Kind) (b : ℕ) (bs : List ℕ) (n : ℕ) → is_upper b ≡ true → n ≤ suc (length bs) → is_token k (take n (b ∷ bs)) ≡ true → n ≤ suc (prefix_len is_word bs)
upper_goes k b bs zero u l h = omega arith
upper_goes k b bs (suc n) u l h = let r = run_longest is_word n bs (upper_begins k b (take n bs) u h) (omega arith) in omega arith

pub upper_longest : (b : ℕ) (bs : List ℕ) → is_upper b ≡ true → IsLongest (b ∷ bs) Upper (suc (prefix_len is_word bs))
upper_longest b bs u = record {
  within = omega (arith, prefix_len-le-length is_word bs);
  token = rw (u, run_passes) refl;
  longest = λ k n l h. upper_goes k b bs n u l h;
}

lower_begins : (k : Kind) (b : ℕ) (bs : List ℕ) → is_lower b ≡ true → is_token k (b ∷ bs) ≡ true → list_all is_word bs ≡ true
lower_begins Upper b bs u h = let l = (and_both (is_upper b) (list_all is_word bs) h).0 in absurd (grind (arith, nat_tests, l, u))
lower_begins Lower b bs u h = (and_both (is_lower b) (list_all is_word bs) h).1
lower_begins Number b bs u h = let l = (and_both (is_digit b) (list_all is_digit bs) h).0 in absurd (grind (arith, nat_tests, l, u))
lower_begins Load b bs u h = absurd cc
lower_begins Choice b bs u h = absurd cc
lower_begins Sign b bs u h = let s = sign_begins b bs h in absurd (grind (arith, nat_tests, s, u))

lower_goes : (k : Kind) (b : ℕ) (bs : List ℕ) (n : ℕ) → is_lower b ≡ true → n ≤ suc (length bs) → is_token k (take n (b ∷ bs)) ≡ true → n ≤ suc (prefix_len is_word bs)
lower_goes k b bs zero u l h = omega arith
lower_goes k b bs (suc n) u l h = let r = run_longest is_word n bs (lower_begins k b (take n bs) u h) (omega arith) in omega arith

pub lower_longest : (b : ℕ) (bs : List ℕ) → is_lower b ≡ true → IsLongest (b ∷ bs) Lower (suc (prefix_len is_word bs))
lower_longest b bs u = record {
  within = omega (arith, prefix_len-le-length is_word bs);
  token = rw (u, run_passes) refl;
  longest = λ k n l h. lower_goes k b bs n u l h;
}

digit_begins : (k : Kind) (b : ℕ) (bs : List ℕ) → is_digit b ≡ true → is_token k (b ∷ bs) ≡ true → list_all is_digit bs ≡ true
digit_begins Upper b bs u h = let l = (and_both (is_upper b) (list_all is_word bs) h).0 in absurd (grind (arith, nat_tests, l, u))
digit_begins Lower b bs u h = let l = (and_both (is_lower b) (list_all is_word bs) h).0 in absurd (grind (arith, nat_tests, l, u))
digit_begins Number b bs u h = (and_both (is_digit b) (list_all is_digit bs) h).1
digit_begins Load b bs u h = absurd cc
digit_begins Choice b bs u h = absurd cc
digit_begins Sign b bs u h = let s = sign_begins b bs h in absurd (grind (arith, nat_tests, s, u))

digit_goes : (k : Kind) (b : ℕ) (bs : List ℕ) (n : ℕ) → is_digit b ≡ true → n ≤ suc (length bs) → is_token k (take n (b ∷ bs)) ≡ true → n ≤ suc (prefix_len is_digit bs)
digit_goes k b bs zero u l h = omega arith
digit_goes k b bs (suc n) u l h = let r = run_longest is_digit n bs (digit_begins k b (take n bs) u h) (omega arith) in omega arith

pub number_longest : (b : ℕ) (bs : List ℕ) → is_digit b ≡ true → IsLongest (b ∷ bs) Number (suc (prefix_len is_digit bs))
number_longest b bs u = record {
  within = omega (arith, prefix_len-le-length is_digit bs);
  token = rw (u, run_passes) refl;
  longest = λ k n l h. digit_goes k b bs n u l h;
}

-- ---- signs, of which none is longer than one before it

abbrev NoneLonger : ℕ → List (List ℕ) → Type 0
NoneLonger n [] = Unit {0}
NoneLonger n (s ∷ ss) = (length s ≤ n) × NoneLonger n ss

abbrev Falls : List (List ℕ) → Type 0
Falls [] = Unit {0}
Falls (s ∷ ss) = NoneLonger (length s) ss × Falls ss

abbrev is_among : List (List ℕ) → List ℕ → Bool
is_among ss bs = list_any (λ s. bytes_eq s bs) ss

-- a word that is a front is as long as that front
front_length : (s bytes : List ℕ) (n : ℕ) → n ≤ length bytes → bytes_eq s (take n bytes) ≡ true → length s ≡ n
front_length s bytes n l h = let e = ap length ((bytes_eq-Decides s (take n bytes)).0 h) in grind (arith, common_steps, e)

none_longer : (m : ℕ) (ss : List (List ℕ)) (bytes : List ℕ) (n : ℕ) → NoneLonger m ss → n ≤ length bytes → is_among ss (take n bytes) ≡ true → n ≤ m
none_longer m [] bytes n f l h = absurd cc
none_longer m (s ∷ ss) bytes n f l h = elim (or_cases (bytes_eq s (take n bytes)) (is_among ss (take n bytes)) h) [ inl e ↦ omega (arith, front_length s bytes n l e, f.0) | inr e ↦ none_longer m ss bytes n f.1 l e ]

-- what the first fitting word of a table is
pub record IsFirst (ss : List (List ℕ)) (bytes : List ℕ) (n : ℕ) : Type 0 where
  pub within : n ≤ length bytes
  pub is_one : is_among ss (take n bytes) ≡ true
  pub longest : (m : ℕ) → m ≤ length bytes → is_among ss (take m bytes) ≡ true → m ≤ n

first_here : (s : List ℕ) (ss : List (List ℕ)) (bytes : List ℕ) → NoneLonger (length s) ss → bytes_eq s (take (length s) bytes) ≡ true → IsFirst (s ∷ ss) bytes (length s)
first_here s ss bytes f e = record {
  within = let k = ap length ((bytes_eq-Decides s (take (length s) bytes)).0 e) in grind (arith, common_steps, k);
  is_one = rw e refl;
  longest = λ m l h. elim (or_cases (bytes_eq s (take m bytes)) (is_among ss (take m bytes)) h) [ inl k ↦ omega (arith, front_length s bytes m l k) | inr k ↦ none_longer (length s) ss bytes m f l k ];
}

-- a word that is a front is the front of its own length
same_front : (s bytes : List ℕ) (m : ℕ) → m ≤ length bytes → bytes_eq s (take m bytes) ≡ true → bytes_eq s (take (length s) bytes) ≡ true
same_front s bytes m l h = let e = front_length s bytes m l h in rw e h

first_later : (s : List ℕ) (ss : List (List ℕ)) (bytes : List ℕ) (n : ℕ) → bytes_eq s (take (length s) bytes) ≡ false → IsFirst ss bytes n → IsFirst (s ∷ ss) bytes n
first_later s ss bytes n e f = record {
  within = f.within;
  is_one = let k = f.is_one in grind (arith, k);
  longest = λ m l h. elim (or_cases (bytes_eq s (take m bytes)) (is_among ss (take m bytes)) h) [ inl k ↦ let j = same_front s bytes m l k in absurd cc | inr k ↦ f.longest m l k ];
}

first_by : (s : List ℕ) (ss : List (List ℕ)) (bytes : List ℕ) (n : ℕ) (b : Bool) → Falls (s ∷ ss) → bytes_eq s (take (length s) bytes) ≡ b → cond b (Some (length s)) (first_prefix ss bytes) ≡ Some n
    → (first_prefix ss bytes ≡ Some n → IsFirst ss bytes n) → IsFirst (s ∷ ss) bytes n
first_by s ss bytes n true f e h more = let k : length s ≡ n = cc in rw (← k) (first_here s ss bytes f.0 e)
first_by s ss bytes n false f e h more = first_later s ss bytes n e (more h)

pub first_is : (ss : List (List ℕ)) (bytes : List ℕ) (n : ℕ) → Falls ss → first_prefix ss bytes ≡ Some n → IsFirst ss bytes n
first_is [] bytes n f h = absurd cc
first_is (s ∷ ss) bytes n f h = first_by s ss bytes n (bytes_eq s (take (length s) bytes)) f refl h (first_is ss bytes n f.1)

none_by : (s : List ℕ) (ss : List (List ℕ)) (bytes : List ℕ) (m : ℕ) (b : Bool) → bytes_eq s (take (length s) bytes) ≡ b → cond b (Some (length s)) (first_prefix ss bytes) ≡ None → m ≤ length bytes
    → (first_prefix ss bytes ≡ None → is_among ss (take m bytes) ≡ true → ⊥) → is_among (s ∷ ss) (take m bytes) ≡ true → ⊥
none_by s ss bytes m true e h l more k = cc
none_by s ss bytes m false e h l more k = elim (or_cases (bytes_eq s (take m bytes)) (is_among ss (take m bytes)) k) [ inl j ↦ let i = same_front s bytes m l j in cc | inr j ↦ more h j ]

pub none_is : (ss : List (List ℕ)) (bytes : List ℕ) (m : ℕ) → first_prefix ss bytes ≡ None → m ≤ length bytes → is_among ss (take m bytes) ≡ true → ⊥
none_is [] bytes m h l k = cc
none_is (s ∷ ss) bytes m h l k = none_by s ss bytes m (bytes_eq s (take (length s) bytes)) refl h l (λ g. none_is ss bytes m g l) k

signs_fall : Falls signs
signs_fall = search rules

-- where the first byte begins no word
other_begins : (k : Kind) (b : ℕ) (bs : List ℕ) → is_upper b ≡ false → is_lower b ≡ false → is_digit b ≡ false → is_token k (b ∷ bs) ≡ true → is_token Sign (b ∷ bs) ≡ true
other_begins Upper b bs u l d h = let k = (and_both (is_upper b) (list_all is_word bs) h).0 in absurd cc
other_begins Lower b bs u l d h = let k = (and_both (is_lower b) (list_all is_word bs) h).0 in absurd cc
other_begins Number b bs u l d h = let k = (and_both (is_digit b) (list_all is_digit bs) h).0 in absurd cc
other_begins Load b bs u l d h = absurd cc
other_begins Choice b bs u l d h = absurd cc
other_begins Sign b bs u l d h = h

other_goes : (k : Kind) (b : ℕ) (bs : List ℕ) (m n : ℕ) → is_upper b ≡ false → is_lower b ≡ false → is_digit b ≡ false → IsFirst signs (b ∷ bs) n → m ≤ suc (length bs) → is_token k (take m (b ∷ bs)) ≡ true → m ≤ n
other_goes k b bs zero n u l d f w h = omega arith
other_goes k b bs (suc m) n u l d f w h = f.longest (suc m) w (other_begins k b (take m bs) u l d h)

pub sign_longest : (b : ℕ) (bs : List ℕ) (n : ℕ) → is_upper b ≡ false → is_lower b ≡ false → is_digit b ≡ false → first_prefix signs (b ∷ bs) ≡ Some n → IsLongest (b ∷ bs) Sign n
sign_longest b bs n u l d h = let f = first_is signs (b ∷ bs) n signs_fall h in record {
  within = f.within;
  token = f.is_one;
  longest = λ k m w t. other_goes k b bs m n u l d f w t;
}

is_false : (b : Bool) → (b ≡ true → ⊥) → b ≡ false
is_false true h = absurd (h refl)
is_false false h = refl

pub nothing_empty : (k : Kind) → is_token k [] ≡ true → ⊥
nothing_empty Upper h = cc
nothing_empty Lower h = cc
nothing_empty Number h = cc
nothing_empty Load h = cc
nothing_empty Choice h = cc
nothing_empty Sign h = cc

none_goes : (k : Kind) (b : ℕ) (bs : List ℕ) (m : ℕ) → is_upper b ≡ false → is_lower b ≡ false → is_digit b ≡ false → first_prefix signs (b ∷ bs) ≡ None → m ≤ suc (length bs) → is_token k (take m (b ∷ bs)) ≡ true → ⊥
none_goes k b bs zero u l d h w t = nothing_empty k t
none_goes k b bs (suc m) u l d h w t = none_is signs (b ∷ bs) (suc m) h w (other_begins k b (take m bs) u l d t)

pub begins_none : (b : ℕ) (bs : List ℕ) → is_upper b ≡ false → is_lower b ≡ false → is_digit b ≡ false → first_prefix signs (b ∷ bs) ≡ None → BeginsNone (b ∷ bs)
begins_none b bs u l d h = λ k m w. is_false (is_token k (take m (b ∷ bs))) (none_goes k b bs m u l d h w)

-- ---- as the code has them

pub upper_at : (bytes bs : List ℕ) (b n : ℕ) → bytes ≡ b ∷ bs → is_upper b ≡ true → n ≡ prefix_len is_word bs → IsLongest bytes Upper (1 + n)
upper_at bytes bs b n e u k = rw (e, k, one-add) (upper_longest b bs u)

pub lower_at : (bytes bs : List ℕ) (b n : ℕ) → bytes ≡ b ∷ bs → is_lower b ≡ true → n ≡ prefix_len is_word bs → IsLongest bytes Lower (1 + n)
lower_at bytes bs b n e u k = rw (e, k, one-add) (lower_longest b bs u)

pub number_at : (bytes bs : List ℕ) (b n : ℕ) → bytes ≡ b ∷ bs → is_digit b ≡ true → n ≡ prefix_len is_digit bs → IsLongest bytes Number (1 + n)
number_at bytes bs b n e u k = rw (e, k, one-add) (number_longest b bs u)

pub sign_at : (bytes bs : List ℕ) (b n : ℕ) → bytes ≡ b ∷ bs → is_upper b ≡ false → is_lower b ≡ false → is_digit b ≡ false → first_prefix signs bytes ≡ Some n → IsLongest bytes Sign n
sign_at bytes bs b n e u l d h = rw e (sign_longest b bs n u l d (rw e at h))

pub none_at : (bytes bs : List ℕ) (b : ℕ) → bytes ≡ b ∷ bs → is_upper b ≡ false → is_lower b ≡ false → is_digit b ≡ false → first_prefix signs bytes ≡ None → BeginsNone bytes
none_at bytes bs b e u l d h = rw e (begins_none b bs u l d (rw e at h))
