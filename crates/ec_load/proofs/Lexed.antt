-- Bytes have no more tokens than they are.
use Rattle.std.proofs.Common.{ℕ, ◌≤◌, ◌<◌, ◌==◌, Bool, true, false, List, [], ◌∷◌, length, drop, Ok, Err, arith, if◌then◌else◌}
use Rattle.std.specs.List.{prefix_len}
use Rattle.std.proofs.lemmas.List.{length-drop}
use Rattle.ec_lex.specs.declared.token.Token.{Token}
use Rattle.ec_lex.specs.Bytes.{line_rest, is_in_line}
use Rattle.ec_lex.specs.Lex.{Found, put, past_comment, Lexes, end, blank, next_line, comment, line_word, bad_line, token, too_large, bad_byte}
use Rattle.ec_lex.proofs.Cut.{some}

abbrev FewIn : ℕ → Found → Type 0
FewIn n (Ok ts) = length ts ≤ n
FewIn n (Err e) = Unit {0}

wider : (m n : ℕ) (r : Found) → m ≤ n → FewIn m r → FewIn n r
wider m n (Ok ts) l f = omega arith
wider m n (Err e) l f = tt

one_more : (m n : ℕ) (t : Token) (r : Found) → m < n → FewIn m r → FewIn n (put t r)
one_more m n t (Ok ts) l f = omega arith
one_more m n t (Err e) l f = tt

by_line_end : (end : Bool) (b : ℕ) (bytes : List ℕ) → length (past_comment bytes) ≤ length bytes → length (if end then b ∷ bytes else past_comment bytes) ≤ length (b ∷ bytes)
by_line_end true b bytes l = omega arith
by_line_end false b bytes l = omega arith

comment_le : (bytes : List ℕ) → length (past_comment bytes) ≤ length bytes
comment_le [] = omega arith
comment_le (b ∷ bytes) = by_line_end (b == 10) b bytes (comment_le bytes)

behind : (bytes : List ℕ) (len : ℕ) → 0 < len → len ≤ length bytes → length (drop len bytes) < length bytes
behind bytes len s l = omega (arith, length-drop len bytes)

pub few_tokens : {line : ℕ} {bytes : List ℕ} {r : Found} → Lexes line bytes r → FewIn (length bytes) r
few_tokens end = omega arith
few_tokens (blank {bytes = bytes} {r = r} k d) = wider (length bytes) _ r (omega arith) (few_tokens d)
few_tokens (next_line {bytes = bytes} {r = r} d) = wider (length bytes) _ r (omega arith) (few_tokens d)
few_tokens (comment {bytes = bytes} {r = r} d) = wider (length (past_comment bytes)) _ r (omega (arith, comment_le bytes)) (few_tokens d)
few_tokens (line_word {len = len} {kind = kind} {bytes = bytes} {r = r} t o b d) =
    one_more (length (line_rest (drop len bytes))) _ _ r (omega (arith, behind bytes len (some bytes kind len t) t.within, length-drop (prefix_len is_in_line (drop len bytes)) (drop len bytes))) (few_tokens d)
few_tokens (bad_line t o b) = tt
few_tokens (token {len = len} {kind = kind} {bytes = bytes} {r = r} t o l d) = one_more (length (drop len bytes)) _ _ r (behind bytes len (some bytes kind len t) t.within) (few_tokens d)
few_tokens (too_large t o l) = tt
few_tokens (bad_byte k n s g) = tt

pub few : (bytes : List ℕ) (tokens : List Token) → Lexes 1 bytes (Ok tokens) → length tokens ≤ length bytes
few bytes tokens d = few_tokens d
