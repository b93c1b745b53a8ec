-- A text has one list of tokens, or one first fault.
use Rattle.std.proofs.Common.{◌≡◌, ℕ, zero, suc, true, false, ◌==◌, List, [], ◌∷◌, take, drop, refl, ap, subst, sym, arith}
use Rattle.std.specs.List.{list_all}
use Rattle.std.proofs.lemmas.Bool.Decides.{nat_tests}
use Rattle.ec_lex.specs.declared.token.Kind.{Kind}
use Rattle.ec_lex.specs.declared.token.Kind.TheVariants.{Upper, Lower, Number, Load, Choice, Sign}
use Rattle.ec_lex.specs.Bytes.{is_blank, is_upper, is_lower, is_digit, is_word, is_token, IsLongest, BeginsNone, line_rest}
use Rattle.ec_lex.specs.Lex.{Found, Lexes, end, blank, next_line, comment, line_word, bad_line, token, too_large, bad_byte}
use Rattle.ec_lex.proofs.Longest.{and_both, begins_sign, sign_begins, nothing_empty}

-- what the first byte of a token of the kind is
abbrev IsFirst : Kind → ℕ → Type 0
IsFirst Upper b = is_upper b ≡ true
IsFirst Lower b = is_lower b ≡ true
IsFirst Number b = is_digit b ≡ true
IsFirst Load b = ⊥
IsFirst Choice b = ⊥
IsFirst Sign b = begins_sign b ≡ true

first_is : (k : Kind) (b : ℕ) (bs : List ℕ) → is_token k (b ∷ bs) ≡ true → IsFirst k b
first_is Upper b bs h = (and_both (is_upper b) (list_all is_word bs) h).0
first_is Lower b bs h = (and_both (is_lower b) (list_all is_word bs) h).0
first_is Number b bs h = (and_both (is_digit b) (list_all is_digit bs) h).0
first_is Load b bs h = cc
first_is Choice b bs h = cc
first_is Sign b bs h = sign_begins b bs h

apart : (k : Kind) (b : ℕ) → IsFirst k b → (is_blank b ≡ false) × ((b == 10) ≡ false) × ((b == 59) ≡ false)
apart Upper b h = (grind (arith, nat_tests, h), grind (arith, nat_tests, h), grind (arith, nat_tests, h))
apart Lower b h = (grind (arith, nat_tests, h), grind (arith, nat_tests, h), grind (arith, nat_tests, h))
apart Number b h = (grind (arith, nat_tests, h), grind (arith, nat_tests, h), grind (arith, nat_tests, h))
apart Load b h = absurd h
apart Choice b h = absurd h
apart Sign b h = (grind (arith, nat_tests, h), grind (arith, nat_tests, h), grind (arith, nat_tests, h))

kind_by_first : (k j : Kind) (b : ℕ) → IsFirst k b → IsFirst j b → k ≡ j
kind_by_first Upper Upper b h g = refl
kind_by_first Upper Lower b h g = absurd (grind (arith, nat_tests, h, g))
kind_by_first Upper Number b h g = absurd (grind (arith, nat_tests, h, g))
kind_by_first Upper Load b h g = absurd g
kind_by_first Upper Choice b h g = absurd g
kind_by_first Upper Sign b h g = absurd (grind (arith, nat_tests, h, g))
kind_by_first Lower Upper b h g = absurd (grind (arith, nat_tests, h, g))
kind_by_first Lower Lower b h g = refl
kind_by_first Lower Number b h g = absurd (grind (arith, nat_tests, h, g))
kind_by_first Lower Load b h g = absurd g
kind_by_first Lower Choice b h g = absurd g
kind_by_first Lower Sign b h g = absurd (grind (arith, nat_tests, h, g))
kind_by_first Number Upper b h g = absurd (grind (arith, nat_tests, h, g))
kind_by_first Number Lower b h g = absurd (grind (arith, nat_tests, h, g))
kind_by_first Number Number b h g = refl
kind_by_first Number Load b h g = absurd g
kind_by_first Number Choice b h g = absurd g
kind_by_first Number Sign b h g = absurd (grind (arith, nat_tests, h, g))
kind_by_first Load Upper b h g = absurd h
kind_by_first Load Lower b h g = absurd h
kind_by_first Load Number b h g = absurd h
kind_by_first Load Load b h g = absurd h
kind_by_first Load Choice b h g = absurd h
kind_by_first Load Sign b h g = absurd h
kind_by_first Choice Upper b h g = absurd h
kind_by_first Choice Lower b h g = absurd h
kind_by_first Choice Number b h g = absurd h
kind_by_first Choice Load b h g = absurd h
kind_by_first Choice Choice b h g = absurd h
kind_by_first Choice Sign b h g = absurd h
kind_by_first Sign Upper b h g = absurd (grind (arith, nat_tests, h, g))
kind_by_first Sign Lower b h g = absurd (grind (arith, nat_tests, h, g))
kind_by_first Sign Number b h g = absurd (grind (arith, nat_tests, h, g))
kind_by_first Sign Load b h g = absurd g
kind_by_first Sign Choice b h g = absurd g
kind_by_first Sign Sign b h g = refl

kind_one : (k j : Kind) (bs : List ℕ) → is_token k bs ≡ true → is_token j bs ≡ true → k ≡ j
kind_one k j [] h g = absurd (nothing_empty k h)
kind_one k j (b ∷ bs) h g = kind_by_first k j b (first_is k b bs h) (first_is j b bs g)

longest_len : (bytes : List ℕ) (k j : Kind) (n m : ℕ) → IsLongest bytes k n → IsLongest bytes j m → n ≡ m
longest_len bytes k j n m t u = let a = t.longest j m u.within u.token in let b = u.longest k n t.within t.token in omega arith

longest_kind : (bytes : List ℕ) (k j : Kind) (n m : ℕ) → IsLongest bytes k n → IsLongest bytes j m → k ≡ j
longest_kind bytes k j n m t u = kind_one k j (take m bytes) (rw (longest_len bytes k j n m t u) at t.token) u.token

token_first : (k : Kind) (n b : ℕ) (bs : List ℕ) → is_token k (take n (b ∷ bs)) ≡ true → IsFirst k b
token_first k zero b bs h = absurd (nothing_empty k h)
token_first k (suc n) b bs h = first_is k b (take n bs) h

longest_apart : {k : Kind} {n b : ℕ} {bs : List ℕ} → IsLongest (b ∷ bs) k n → (is_blank b ≡ false) × ((b == 10) ≡ false) × ((b == 59) ≡ false)
longest_apart {k = k} {n = n} {b = b} {bs = bs} t = apart k b (token_first k n b bs t.token)

not_none : {k : Kind} {n : ℕ} {bs : List ℕ} → IsLongest bs k n → BeginsNone bs → ⊥
not_none {k = k} {n = n} t g = let h = g k n t.within in let i = t.token in cc

not_empty : {k : Kind} {n : ℕ} → IsLongest [] k n → ⊥
not_empty {k = k} {n = zero} t = nothing_empty k t.token
not_empty {k = k} {n = suc n} t = omega (arith, t.within)

lexes_from : {line : ℕ} {a b : List ℕ} {r : Found} → a ≡ b → Lexes line b r → Lexes line a r
lexes_from {line = line} {r = r} e d = subst (λ z. Lexes line z r) (sym e) d

pub lexes_one : {line : ℕ} {bytes : List ℕ} {r s : Found} → Lexes line bytes r → Lexes line bytes s → r ≡ s
lexes_one end end = refl
lexes_one end (line_word yt yo yb yd) = absurd (not_empty yt)
lexes_one end (bad_line yt yo yb) = absurd (not_empty yt)
lexes_one end (token yt yo yl yd) = absurd (not_empty yt)
lexes_one end (too_large yt yo yl) = absurd (not_empty yt)
lexes_one (blank xk xd) (blank yk yd) = lexes_one xd yd
lexes_one (blank xk xd) (next_line yd) = absurd cc
lexes_one (blank xk xd) (comment yd) = absurd cc
lexes_one (blank xk xd) (line_word yt yo yb yd) = let h = longest_apart yt in absurd cc
lexes_one (blank xk xd) (bad_line yt yo yb) = let h = longest_apart yt in absurd cc
lexes_one (blank xk xd) (token yt yo yl yd) = let h = longest_apart yt in absurd cc
lexes_one (blank xk xd) (too_large yt yo yl) = let h = longest_apart yt in absurd cc
lexes_one (blank xk xd) (bad_byte yk yn ys yg) = absurd cc
lexes_one (next_line xd) (blank yk yd) = absurd cc
lexes_one (next_line xd) (next_line yd) = lexes_one xd yd
lexes_one (next_line xd) (line_word yt yo yb yd) = let h = longest_apart yt in absurd cc
lexes_one (next_line xd) (bad_line yt yo yb) = let h = longest_apart yt in absurd cc
lexes_one (next_line xd) (token yt yo yl yd) = let h = longest_apart yt in absurd cc
lexes_one (next_line xd) (too_large yt yo yl) = let h = longest_apart yt in absurd cc
lexes_one (next_line xd) (bad_byte yk yn ys yg) = absurd cc
lexes_one (comment xd) (blank yk yd) = absurd cc
lexes_one (comment xd) (comment yd) = lexes_one xd yd
lexes_one (comment xd) (line_word yt yo yb yd) = let h = longest_apart yt in absurd cc
lexes_one (comment xd) (bad_line yt yo yb) = let h = longest_apart yt in absurd cc
lexes_one (comment xd) (token yt yo yl yd) = let h = longest_apart yt in absurd cc
lexes_one (comment xd) (too_large yt yo yl) = let h = longest_apart yt in absurd cc
lexes_one (comment xd) (bad_byte yk yn ys yg) = absurd cc
lexes_one (line_word xt xo xb xd) end = absurd (not_empty xt)
lexes_one (line_word xt xo xb xd) (blank yk yd) = let h = longest_apart xt in absurd cc
lexes_one (line_word xt xo xb xd) (next_line yd) = let h = longest_apart xt in absurd cc
lexes_one (line_word xt xo xb xd) (comment yd) = let h = longest_apart xt in absurd cc
lexes_one (line_word {len = n} {kind = k} {bytes = bytes} xt xo xb xd) (line_word {len = m} {kind = j} yt yo yb yd) = let h = longest_len bytes k j n m xt yt in let e = lexes_one xd (lexes_from (ap (λ z. line_rest (drop z bytes)) h) yd) in cc
lexes_one (line_word {len = n} {kind = k} {bytes = bytes} xt xo xb xd) (bad_line {len = m} {kind = j} yt yo yb) = let h = longest_len bytes k j n m xt yt in absurd cc
lexes_one (line_word {len = n} {kind = k} {bytes = bytes} xt xo xb xd) (token {len = m} {kind = j} yt yo yl yd) = let h = longest_len bytes k j n m xt yt in absurd cc
lexes_one (line_word {len = n} {kind = k} {bytes = bytes} xt xo xb xd) (too_large {len = m} {kind = j} yt yo yl) = let h = longest_len bytes k j n m xt yt in absurd cc
lexes_one (line_word xt xo xb xd) (bad_byte yk yn ys yg) = absurd (not_none xt yg)
lexes_one (bad_line xt xo xb) end = absurd (not_empty xt)
lexes_one (bad_line xt xo xb) (blank yk yd) = let h = longest_apart xt in absurd cc
lexes_one (bad_line xt xo xb) (next_line yd) = let h = longest_apart xt in absurd cc
lexes_one (bad_line xt xo xb) (comment yd) = let h = longest_apart xt in absurd cc
lexes_one (bad_line {len = n} {kind = k} {bytes = bytes} xt xo xb) (line_word {len = m} {kind = j} yt yo yb yd) = let h = longest_len bytes k j n m xt yt in absurd cc
lexes_one (bad_line {len = n} {kind = k} {bytes = bytes} xt xo xb) (bad_line {len = m} {kind = j} yt yo yb) = let h = longest_len bytes k j n m xt yt in cc
lexes_one (bad_line {len = n} {kind = k} {bytes = bytes} xt xo xb) (token {len = m} {kind = j} yt yo yl yd) = let h = longest_len bytes k j n m xt yt in absurd cc
lexes_one (bad_line {len = n} {kind = k} {bytes = bytes} xt xo xb) (too_large {len = m} {kind = j} yt yo yl) = let h = longest_len bytes k j n m xt yt in absurd cc
lexes_one (bad_line xt xo xb) (bad_byte yk yn ys yg) = absurd (not_none xt yg)
lexes_one (token xt xo xl xd) end = absurd (not_empty xt)
lexes_one (token xt xo xl xd) (blank yk yd) = let h = longest_apart xt in absurd cc
lexes_one (token xt xo xl xd) (next_line yd) = let h = longest_apart xt in absurd cc
lexes_one (token xt xo xl xd) (comment yd) = let h = longest_apart xt in absurd cc
lexes_one (token {len = n} {kind = k} {bytes = bytes} xt xo xl xd) (line_word {len = m} {kind = j} yt yo yb yd) = let h = longest_len bytes k j n m xt yt in absurd cc
lexes_one (token {len = n} {kind = k} {bytes = bytes} xt xo xl xd) (bad_line {len = m} {kind = j} yt yo yb) = let h = longest_len bytes k j n m xt yt in absurd cc
lexes_one (token {len = n} {kind = k} {bytes = bytes} xt xo xl xd) (token {len = m} {kind = j} yt yo yl yd) = let h = longest_len bytes k j n m xt yt in let g = longest_kind bytes k j n m xt yt in let e = lexes_one xd (lexes_from (ap (λ z. drop z bytes) h) yd) in cc
lexes_one (token {len = n} {kind = k} {bytes = bytes} xt xo xl xd) (too_large {len = m} {kind = j} yt yo yl) = let h = longest_len bytes k j n m xt yt in let g = longest_kind bytes k j n m xt yt in absurd cc
lexes_one (token xt xo xl xd) (bad_byte yk yn ys yg) = absurd (not_none xt yg)
lexes_one (too_large xt xo xl) end = absurd (not_empty xt)
lexes_one (too_large xt xo xl) (blank yk yd) = let h = longest_apart xt in absurd cc
lexes_one (too_large xt xo xl) (next_line yd) = let h = longest_apart xt in absurd cc
lexes_one (too_large xt xo xl) (comment yd) = let h = longest_apart xt in absurd cc
lexes_one (too_large {len = n} {kind = k} {bytes = bytes} xt xo xl) (line_word {len = m} {kind = j} yt yo yb yd) = let h = longest_len bytes k j n m xt yt in absurd cc
lexes_one (too_large {len = n} {kind = k} {bytes = bytes} xt xo xl) (bad_line {len = m} {kind = j} yt yo yb) = let h = longest_len bytes k j n m xt yt in absurd cc
lexes_one (too_large {len = n} {kind = k} {bytes = bytes} xt xo xl) (token {len = m} {kind = j} yt yo yl yd) = let h = longest_len bytes k j n m xt yt in let g = longest_kind bytes k j n m xt yt in absurd cc
lexes_one (too_large {len = n} {kind = k} {bytes = bytes} xt xo xl) (too_large {len = m} {kind = j} yt yo yl) = let h = longest_len bytes k j n m xt yt in cc
lexes_one (too_large xt xo xl) (bad_byte yk yn ys yg) = absurd (not_none xt yg)
lexes_one (bad_byte xk xn xs xg) (blank yk yd) = absurd cc
lexes_one (bad_byte xk xn xs xg) (next_line yd) = absurd cc
lexes_one (bad_byte xk xn xs xg) (comment yd) = absurd cc
lexes_one (bad_byte xk xn xs xg) (line_word yt yo yb yd) = absurd (not_none yt xg)
lexes_one (bad_byte xk xn xs xg) (bad_line yt yo yb) = absurd (not_none yt xg)
lexes_one (bad_byte xk xn xs xg) (token yt yo yl yd) = absurd (not_none yt xg)
lexes_one (bad_byte xk xn xs xg) (too_large yt yo yl) = absurd (not_none yt xg)
lexes_one (bad_byte xk xn xs xg) (bad_byte yk yn ys yg) = refl
