-- The last line of a text.
use Rattle.std.specs.Prelude.{ℕ, List, [], ◌∷◌, ◌==◌, if◌then◌else◌}

-- the first line with a byte before it
abbrev pub with_byte : ℕ → List (List ℕ) → List (List ℕ)
with_byte byte [] = []
with_byte byte (line ∷ lines) = (byte ∷ line) ∷ lines

-- the lines of a text, each without the byte 10 that ends it
abbrev pub lines_of : List ℕ → List (List ℕ)
lines_of [] = []
lines_of (byte ∷ bytes) = if byte == 10 then [] ∷ lines_of bytes else with_byte byte (lines_of bytes)

-- the last of these lines, behind a line
abbrev pub last_behind : List ℕ → List (List ℕ) → List ℕ
last_behind line [] = line
last_behind line (next ∷ lines) = last_behind next lines

-- the last line of a text, without its end; none is the empty one
abbrev pub last_line : List ℕ → List ℕ
last_line text = last_behind [] (lines_of text)
