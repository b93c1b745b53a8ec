-- A number, a name and values as a line: `16 Near(0, -1)`.
use Rattle.std.specs.Prelude.{ℕ, ◌/◌, ◌%◌, nat_lt, if◌then◌else◌, ℤ, pos, negsuc, codes, List, [], ◌∷◌, ◌++◌, Option, Some, None}
use Rattle.theory_tables.specs.Text.{digit, number_text}

-- a number below 100
abbrev pub two_digits : ℕ → List ℕ
two_digits n = if nat_lt n 10 then digit n else digit (n / 10) ++ digit (n % 10)

abbrev pub more_values : List ℤ → List ℕ
more_values [] = []
more_values (v ∷ vs) = codes ", " ++ number_text v ++ more_values vs

abbrev pub values_text : List ℤ → List ℕ
values_text [] = []
values_text (v ∷ vs) = number_text v ++ more_values vs

abbrev pub line : List ℕ → List ℕ → List ℤ → List ℕ
line number name values = number ++ codes " " ++ name ++ codes "(" ++ values_text values ++ codes ")"

-- the number of an atom as text
abbrev pub found : Option ℕ → List ℕ
found None = codes "none"
found (Some n) = two_digits n

-- the place of a term as text
abbrev pub found_place : ℤ → List ℕ
found_place (pos n) = two_digits n
found_place (negsuc n) = codes "none"
