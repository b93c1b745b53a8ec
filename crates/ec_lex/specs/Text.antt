-- The bytes of a word, wherever they lie.
use Rattle.std.specs.Prelude.{ℕ, List, take, ◌≤◌, string_bytes}
use Rattle.std.specs.Str.{IsUtf8}
use Rattle.ec_lex.specs.declared.word.Text.{Text}
use Rattle.ec_lex.specs.declared.word.Text.TheVariants.{Inline, Heap}

abbrev pub bytes_of : Text → List ℕ
bytes_of (Inline bytes len) = take len bytes
bytes_of (Heap text) = string_bytes text.value

-- the length is within the room in the word, and the bytes are UTF-8 text
abbrev pub IsText : Text → Type 0
IsText (Inline bytes len) = (len ≤ 15) × IsUtf8 (take len bytes)
IsText (Heap text) = IsUtf8 (string_bytes text.value)
