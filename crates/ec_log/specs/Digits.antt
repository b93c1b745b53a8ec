-- Truth values as hexadecimal digits, and the digits of a blocked line.
use Rattle.std.specs.Prelude.{ℕ, ◌+◌, ◌*◌, ◌≤◌, ◌⊎◌, Bool, true, false, List, [], ◌∷◌, nat_lt, if◌then◌else◌}

-- the byte of a hexadecimal digit, in lower case
abbrev pub hex_digit : ℕ → ℕ
hex_digit n = if nat_lt n 10 then 48 + n else 87 + n

-- a bit as a number
abbrev pub bit : Bool → ℕ
bit true = 1
bit false = 0

-- the digit of four bits, the first the highest
abbrev pub digit_of : Bool → Bool → Bool → Bool → ℕ
digit_of a b c d = hex_digit (8 * bit a + 4 * bit b + 2 * bit c + bit d)

-- one digit for each four bits, the last four filled with zeros
abbrev pub digits_of : List Bool → List ℕ
digits_of [] = []
digits_of (a ∷ []) = digit_of a false false false ∷ []
digits_of (a ∷ b ∷ []) = digit_of a b false false ∷ []
digits_of (a ∷ b ∷ c ∷ []) = digit_of a b c false ∷ []
digits_of (a ∷ b ∷ c ∷ d ∷ bits) = digit_of a b c d ∷ digits_of bits

-- a byte that is a hexadecimal digit in lower case
abbrev pub IsHexDigit : ℕ → Type 0
IsHexDigit byte = ((48 ≤ byte) × (byte ≤ 57)) ⊎ ((97 ≤ byte) × (byte ≤ 102))
