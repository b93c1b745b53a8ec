-- One token cut off the front.
use Rattle.std.proofs.Common.{◌≡◌, ℕ, zero, suc, ◌<◌, true, false, List, take, drop, Err, Some, None, arith}
use Rattle.ec_lex.specs.declared.token.LexFault.TheVariants.{BadByte, TooLarge}
use Rattle.ec_lex.specs.declared.token.Kind.{Kind}
use Rattle.ec_lex.specs.Bytes.{IsLongest, is_large, line_kind, line_text, line_rest, bad_in}
use Rattle.ec_lex.proofs.Longest.{nothing_empty}
use Rattle.ec_lex.specs.Lex.{Found, put, Lexes, line_word, bad_line, token, too_large}

pub cuts_word : (bytes word after : List ℕ) (line len : ℕ) (kind : Kind) → IsLongest bytes kind len → word ≡ take len bytes → after ≡ drop len bytes → line_kind word ≡ None → is_large kind word ≡ false
    → (r : Found) → Lexes line after r → Lexes line bytes (put (record { kind = kind; word = word; line = line }) r)
cuts_word bytes word after line len kind t w a o k = λ r d. rw w (token t (rw w at o) (rw w at k) (rw a at d))

pub cuts_line : (bytes word behind text after : List ℕ) (line len : ℕ) (kind word_kind : Kind) → IsLongest bytes kind len → word ≡ take len bytes → behind ≡ drop len bytes → line_kind word ≡ Some word_kind
    → text ≡ line_text behind → after ≡ line_rest behind → bad_in text ≡ None → (r : Found) → Lexes line after r → Lexes line bytes (put (record { kind = word_kind; word = text; line = line }) r)
cuts_line bytes word behind text after line len kind word_kind t w a o x y b = λ r d. rw (x, a) (line_word t (rw w at o) (rw (x, a) at b) (rw (y, a) at d))

pub fails_large : (bytes word : List ℕ) (line len : ℕ) (kind : Kind) → IsLongest bytes kind len → word ≡ take len bytes → line_kind word ≡ None → is_large kind word ≡ true → Lexes line bytes (Err (TooLarge line word))
fails_large bytes word line len kind t w o k = rw w (too_large t (rw w at o) (rw w at k))

pub fails_line : (bytes word behind text : List ℕ) (line len b : ℕ) (kind word_kind : Kind) → IsLongest bytes kind len → word ≡ take len bytes → behind ≡ drop len bytes → line_kind word ≡ Some word_kind
    → text ≡ line_text behind → bad_in text ≡ Some b → Lexes line bytes (Err (BadByte line b))
fails_line bytes word behind text line len b kind word_kind t w a o x k = bad_line t (rw w at o) (rw (x, a) at k)

-- a token has a byte at least
pub some : (bytes : List ℕ) (kind : Kind) (len : ℕ) → IsLongest bytes kind len → 0 < len
some bytes kind zero t = absurd (nothing_empty kind t.token)
some bytes kind (suc len) t = omega arith
