-- The tokens of a text, or its first fault. The number is that of the line.
use Rattle.std.specs.Prelude.{◌≡◌, ℕ, suc, true, false, List, [], ◌∷◌, length, take, drop, Result, Ok, Err, Some, None, ◌==◌, ◌<◌, if◌then◌else◌, IsTrue}
use Rattle.std.specs.Borrow.{Bor}
use Rattle.ec_lex.specs.declared.token.Kind.{Kind}
use Rattle.ec_lex.specs.declared.token.Token.{Token}
use Rattle.ec_lex.specs.declared.token.LexFault.{LexFault}
use Rattle.ec_lex.specs.declared.token.LexFault.TheVariants.{BadByte, TooLarge, Memory}
use Rattle.std.specs.declared.vec.Vec.{Vec}
use Rattle.std.specs.declared.alloc.Global.{Global}
use Rattle.ec_lex.specs.Bytes.{is_blank, IsLongest, BeginsNone, is_large, line_kind, line_text, line_rest, bad_in, has_form}

-- the tokens, or the first fault
abbrev pub Found : Type 0
Found = Result (List Token) LexFault

-- a token before what follows it; a fault stays
abbrev pub put : Token → Found → Found
put t (Ok ts) = Ok (t ∷ ts)
put t (Err e) = Err e

-- what follows a comment: from the end of its line on
abbrev pub past_comment : List ℕ → List ℕ
past_comment [] = []
past_comment (b ∷ bs) = if b == 10 then b ∷ bs else past_comment bs

-- From this line on these bytes have these tokens, or this fault. A constructor says what stands first.
pub data Lexes : ℕ → List ℕ → Found → Type 0 where
  end : {line : ℕ} → Lexes line [] (Ok [])
  blank : {line b : ℕ} {bytes : List ℕ} {r : Found} → is_blank b ≡ true → Lexes line bytes r → Lexes line (b ∷ bytes) r
  next_line : {line : ℕ} {bytes : List ℕ} {r : Found} → Lexes (suc line) bytes r → Lexes line (10 ∷ bytes) r
  comment : {line : ℕ} {bytes : List ℕ} {r : Found} → Lexes line (past_comment bytes) r → Lexes line (59 ∷ bytes) r
  line_word : {line len : ℕ} {kind word_kind : Kind} {bytes : List ℕ} {r : Found} → IsLongest bytes kind len → line_kind (take len bytes) ≡ Some word_kind → bad_in (line_text (drop len bytes)) ≡ None
      → Lexes line (line_rest (drop len bytes)) r → Lexes line bytes (put (record { kind = word_kind; word = line_text (drop len bytes); line = line }) r)
  bad_line : {line len b : ℕ} {kind word_kind : Kind} {bytes : List ℕ} → IsLongest bytes kind len → line_kind (take len bytes) ≡ Some word_kind → bad_in (line_text (drop len bytes)) ≡ Some b
      → Lexes line bytes (Err (BadByte line b))
  token : {line len : ℕ} {kind : Kind} {bytes : List ℕ} {r : Found} → IsLongest bytes kind len → line_kind (take len bytes) ≡ None → is_large kind (take len bytes) ≡ false → Lexes line (drop len bytes) r
      → Lexes line bytes (put (record { kind = kind; word = take len bytes; line = line }) r)
  too_large : {line len : ℕ} {kind : Kind} {bytes : List ℕ} → IsLongest bytes kind len → line_kind (take len bytes) ≡ None → is_large kind (take len bytes) ≡ true
      → Lexes line bytes (Err (TooLarge line (take len bytes)))
  bad_byte : {line b : ℕ} {bytes : List ℕ} → is_blank b ≡ false → (b == 10) ≡ false → (b == 59) ≡ false → BeginsNone (b ∷ bytes) → Lexes line (b ∷ bytes) (Err (BadByte line b))

-- A lexer may answer this, or that it has no memory.
abbrev pub Answers : List ℕ → Found → Type 0
Answers bytes (Ok ts) = Lexes 1 bytes (Ok ts)
Answers bytes (Err (BadByte line b)) = Lexes 1 bytes (Err (BadByte line b))
Answers bytes (Err (TooLarge line w)) = Lexes 1 bytes (Err (TooLarge line w))
Answers bytes (Err Memory) = Unit {0}

-- one token cut off the front: whatever the rest has, the bytes have the token before it
abbrev pub Cuts : ℕ → List ℕ → Result (Token × Bor (List ℕ)) LexFault → Type 0
Cuts line bytes (Ok cut) = ((r : Found) → Lexes line cut.1.now r → Lexes line bytes (put cut.0 r)) × (length cut.1.now < length bytes)
Cuts line bytes (Err (BadByte at b)) = Lexes line bytes (Err (BadByte at b))
Cuts line bytes (Err (TooLarge at w)) = Lexes line bytes (Err (TooLarge at w))
Cuts line bytes (Err Memory) = Unit {0}

-- The word of the token has the form of its kind.
abbrev pub IsFormed : Token → Type 0
IsFormed t = IsTrue (has_form t.kind t.word)

-- the answer as plain data
abbrev pub seen : Result (Vec Token Global) LexFault → Found
seen (Ok v) = Ok v.items
seen (Err e) = Err e
