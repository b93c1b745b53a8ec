-- a literal: a variable, as it is or negated
use Rattle.std.specs.Prelude.{ℕ, zero, suc, ◌+◌, ◌^◌, ◌≤◌, ◌<◌, Bool, true, false, not, refl, ℤ, pos, negsuc}
use Rattle.std.specs.Coded.{Coded, code_by, coded×, coded_ℕ, coded_bool}

pub record Literal : Type 0 where
  pub variable : ℕ
  pub positive : Bool

-- the literal with the other sign
abbrev pub opposite : Literal → Literal
opposite l = record { variable = l.variable; positive = not l.positive }

-- literals can be listed, so that a type of them can be compared
abbrev pub literal_code : Coded Literal
literal_code = code_by (ℕ × Bool) (coded× coded_ℕ coded_bool) (λ l. (l.variable, l.positive)) (λ p. record { variable = p.0; positive = p.1 }) (λ _. refl)

-- the literal that a whole number other than 0 stands for
abbrev pub literal_of : ℤ → Literal
literal_of (pos n) = record { variable = n; positive = true }
literal_of (negsuc n) = record { variable = n + 1; positive = false }

-- a number with a sign
abbrev pub signed : Bool → ℕ → ℤ
signed true n = pos n
signed false zero = pos zero
signed false (suc n) = negsuc n

-- the number that stands for a literal
abbrev pub number_of : Literal → ℤ
number_of l = signed l.positive l.variable

-- numbers that stand for a literal: neither 0 nor of more than 31 bits
abbrev pub IsNumber : ℤ → Type 0
IsNumber (pos n) = (1 ≤ n) × (n < 2 ^ 31)
IsNumber (negsuc n) = n + 1 < 2 ^ 31
