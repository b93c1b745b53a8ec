-- The refusals of a load.
use Rattle.std.specs.Prelude.{ℕ, ◌+◌, ◌/◌, ◌%◌, List, [], ◌∷◌, nat_lt, if◌then◌else◌}
use Rattle.ec_syntax.specs.declared.book.Refusal.{Refusal}

-- where a file is asked for: at a line of another file, or at line 0 of the root itself
pub record Place : Type 0 where
  pub file : List ℕ
  pub line : ℕ

abbrev pub refused : ℕ → Place → List ℕ → Refusal
refused code place name = record { code = code; file = place.file; line = place.line; name = name }

-- a place in a file
abbrev pub in_file : List ℕ → ℕ → Place
in_file file line = record { file = file; line = line }

-- `0` to `9`, then `a` to `f`
abbrev pub hexadecimal_digit : ℕ → ℕ
hexadecimal_digit n = if nat_lt n 10 then 48 + n else 87 + n

-- a byte as two lower-case hexadecimal digits
abbrev pub hexadecimal : ℕ → List ℕ
hexadecimal byte = hexadecimal_digit (byte / 16) ∷ hexadecimal_digit (byte % 16) ∷ []
