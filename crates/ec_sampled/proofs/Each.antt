-- What is so of each number from 1 on, case by case.
use Rattle.std.proofs.Common.{◌≡◌, ℕ, zero, suc, ◌≤◌, ◌⊎◌, inl, inr, Bool, true, false, nat_le, refl, sym, subst, arith}
use Rattle.std.proofs.lemmas.Bool.Decides.{nat_tests}

-- it is so of 1 to this number
abbrev pub UpTo : (ℕ → Type 0) → ℕ → Type 0
UpTo P zero = Unit {0}
UpTo P (suc most) = UpTo P most × P (suc most)

by_test : (n most : ℕ) (b : Bool) → nat_le n most ≡ b → n ≤ suc most → (n ≡ suc most) ⊎ (n ≤ most)
by_test n most true e l = inr (grind (arith, nat_tests, e))
by_test n most false e l = inl (grind (arith, nat_tests, e, l))

-- so it is so of each of them
pub each : (P : ℕ → Type 0) (most n : ℕ) → UpTo P most → 1 ≤ n → n ≤ most → P n
each P zero n all some few = absurd (omega (arith, some, few))
each P (suc most) n all some few = elim (by_test n most (nat_le n most) refl few) [ inl e ↦ subst P (sym e) all.1 | inr l ↦ each P most n all.0 some l ]
