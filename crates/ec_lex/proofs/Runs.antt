-- The turns of the loop over the bytes.
use Rattle.std.proofs.Common.{◌≡◌, ℕ, ◌+◌, ◌≤◌, ◌<◌, true, false, List, [], ◌∷◌, ◌++◌, length, Ok, Err, refl, ap, add-one, ◌==◌, arith}
use Rattle.ec_lex.specs.declared.token.Token.{Token}
use Rattle.ec_lex.specs.declared.token.LexFault.{LexFault}
use Rattle.ec_lex.specs.Lex.{Found, put, Lexes, end, blank, next_line, comment, bad_byte, past_comment, Cuts, Answers}
use Rattle.ec_lex.specs.declared.token.LexFault.TheVariants.{BadByte, TooLarge, Memory}
use Rattle.ec_lex.specs.Bytes.{is_blank, BeginsNone}

-- those found so far, before what is still to come
abbrev pub put_all : List Token → Found → Found
put_all [] r = r
put_all (t ∷ ts) r = put t (put_all ts r)

pub put_all-push : (ts : List Token) (t : Token) (r : Found) → put_all (ts ++ t ∷ []) r ≡ put_all ts (put t r)
put_all-push [] t r = refl
put_all-push (u ∷ ts) t r = ap (put u) (put_all-push ts t r)

pub put_all-end : (ts : List Token) → put_all ts (Ok []) ≡ Ok ts
put_all-end [] = refl
put_all-end (u ∷ ts) = ap (put u) (put_all-end ts)

pub put_all-fault : (ts : List Token) (e : LexFault) → put_all ts (Err e) ≡ Err e
put_all-fault [] e = refl
put_all-fault (u ∷ ts) e = ap (put u) (put_all-fault ts e)

pub record Lexed (bytes : List ℕ) (line : ℕ) (rest : List ℕ) (found : List Token) : Type 0 where
  pub so_far : (r : Found) → Lexes line rest r → Lexes 1 bytes (put_all found r)
  pub room : line + length rest ≤ 1 + length bytes

pub turn_blank : (bytes rest after : List ℕ) (line b : ℕ) (found : List Token) → Lexed bytes line rest found → rest ≡ b ∷ after → is_blank b ≡ true → Lexed bytes line after found
turn_blank bytes rest after line b found l e k = record {
  so_far = λ r d. l.so_far r (rw e (blank k d));
  room = let m = l.room in omega (arith, ap length e);
}

pub turn_line : (bytes rest after : List ℕ) (line b : ℕ) (found : List Token) → Lexed bytes line rest found → rest ≡ b ∷ after → b ≡ 10 → Lexed bytes (line + 1) after found
turn_line bytes rest after line b found l e k = record {
  so_far = λ r d. l.so_far r (rw (e, k) (next_line (rw add-one at d)));
  room = let m = l.room in omega (arith, ap length e);
}

pub turn_comment : (bytes rest after next : List ℕ) (line b : ℕ) (found : List Token) → Lexed bytes line rest found → rest ≡ b ∷ after → b ≡ 59 → next ≡ past_comment after → length next ≤ length after
    → Lexed bytes line next found
turn_comment bytes rest after next line b found l e k n s = record {
  so_far = λ r d. l.so_far r (rw (e, k) (comment (rw n at d)));
  room = let m = l.room in omega (arith, ap length e);
}

pub turn_cut : (bytes rest after : List ℕ) (line : ℕ) (t : Token) (found new : List Token) → Lexed bytes line rest found → ((r : Found) → Lexes line after r → Lexes line rest (put t r)) → length after < length rest
    → new ≡ found ++ t ∷ [] → Lexed bytes line after new
turn_cut bytes rest after line t found new l k s n = record {
  so_far = λ r d. rw (n, put_all-push) (l.so_far _ (k r d));
  room = let m = l.room in omega arith;
}

pub ends : (bytes rest : List ℕ) (line : ℕ) (found : List Token) → Lexed bytes line rest found → rest ≡ [] → Lexes 1 bytes (Ok found)
ends bytes rest line found l e = rw (← put_all-end found) (l.so_far (Ok []) (rw e end))

-- a fault of what is left is the fault of the whole
pub ends_fault : (bytes rest : List ℕ) (line : ℕ) (found : List Token) (e : LexFault) → Lexed bytes line rest found → Lexes line rest (Err e) → Lexes 1 bytes (Err e)
ends_fault bytes rest line found e l d = rw (← put_all-fault found e) (l.so_far _ d)

pub cut_fault : (bytes rest : List ℕ) (line : ℕ) (found : List Token) (e : LexFault) → Lexed bytes line rest found → Cuts line rest (Err e) → Answers bytes (Err e)
cut_fault bytes rest line found (BadByte at b) l d = ends_fault bytes rest line found _ l d
cut_fault bytes rest line found (TooLarge at w) l d = ends_fault bytes rest line found _ l d
cut_fault bytes rest line found Memory l d = tt

pub ends_bad : (bytes rest after : List ℕ) (line b : ℕ) (found : List Token) → Lexed bytes line rest found → rest ≡ b ∷ after → is_blank b ≡ false → (b == 10) ≡ false → (b == 59) ≡ false → BeginsNone rest
    → Lexes 1 bytes (Err (BadByte line b))
ends_bad bytes rest after line b found l e k n s g = rw (← put_all-fault found (BadByte line b)) (l.so_far _ (rw e (bad_byte k n s (rw e at g))))

pub nothing_left : (xs : List ℕ) → length xs ≡ 0 → xs ≡ []
nothing_left [] h = refl
nothing_left (x ∷ xs) h = absurd (omega (arith, h))
