-- What a file says by itself, without what it loads: its statements, or its first fault.
use Rattle.std.specs.Prelude.{ℕ, ◌≤◌, ◌<◌, codes, List, length, Result, Ok, Err, Option, Some, None}
use Rattle.ec_lex.specs.declared.token.Token.{Token}
use Rattle.ec_lex.specs.declared.token.LexFault.TheVariants.{BadByte, TooLarge}
use Rattle.ec_lex.specs.Lex.{Lexes}
use Rattle.ec_parse.specs.declared.fault.ParseFault.TheVariants.{Syntax, Deep}
use Rattle.ec_parse.specs.Statements.{AreStatements}
use Rattle.ec_syntax.specs.declared.book.Refusal.{Refusal}
use Rattle.ec_syntax.specs.Written.{Statement}
use Rattle.ec_load.specs.Refusals.{Place, refused, in_file, hexadecimal}

-- statements, or why there are none
abbrev pub Found : Type 0
Found = Result (List Statement) Refusal

-- What the bytes of a file of this name say. A lexical fault stands before a faulty statement.
pub data Says (file bytes : List ℕ) : Found → Type 0 where
  statements : (tokens : List Token) {ss : List Statement} → Lexes 1 bytes (Ok tokens) → AreStatements tokens (Ok ss) → Says file bytes (Ok ss)
  bad_byte : {line byte : ℕ} → Lexes 1 bytes (Err (BadByte line byte)) → Says file bytes (Err (refused 2 (in_file file line) (hexadecimal byte)))
  too_large : {line : ℕ} {digits : List ℕ} → Lexes 1 bytes (Err (TooLarge line digits)) → Says file bytes (Err (refused 5 (in_file file line) digits))
  outside : (tokens : List Token) {line : ℕ} {word : List ℕ} → Lexes 1 bytes (Ok tokens) → AreStatements tokens (Err (Syntax line word)) → Says file bytes (Err (refused 5 (in_file file line) word))
  deep : (tokens : List Token) {line : ℕ} → Lexes 1 bytes (Ok tokens) → AreStatements tokens (Err (Deep line)) → Says file bytes (Err (refused 15 (in_file file line) (codes "depth")))

-- What a file that is asked for at a place comes to, by the bytes that its name holds.
pub data Opens (place : Place) (file : List ℕ) : Option (List ℕ) → Found → Type 0 where
  absent : Opens place file None (Err (refused 1 place file))
  large : {bytes : List ℕ} → 1048576 < length bytes → Opens place file (Some bytes) (Err (refused 3 place file))
  read : {bytes : List ℕ} {r : Found} → length bytes ≤ 1048576 → Says file bytes r → Opens place file (Some bytes) r
