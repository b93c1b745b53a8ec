-- The text of the sample is short.
use Rattle.std.proofs.Common.{◌≡◌, ℕ, ◌≤◌, true, nat_le, length, refl, arith}
use Rattle.std.specs.Fmt.{digits}
use Rattle.std.proofs.lemmas.Bool.Decides.{nat_tests}
use Rattle.ec_sample.specs.Text.{sample_text}
use Rattle.ec_sampled.proofs.Each.{UpTo, each}

abbrev IsShort : ℕ → Type 0
IsShort n = nat_le (length (sample_text n)) 1048576 ≡ true

-- by computing
all_short : UpTo IsShort 40
unfolding digits
all_short =
    ((((((((((((((((((((((((((((((((((((((((tt, refl), refl), refl), refl), refl), refl), refl), refl), refl), refl), refl), refl), refl), refl), refl), refl), refl), refl), refl), refl), refl), refl), refl), refl), refl), refl), refl), refl), refl), refl), refl), refl), refl), refl), refl), refl), refl), refl), refl), refl)

pub sample_short : (n : ℕ) → 1 ≤ n → n ≤ 40 → length (sample_text n) ≤ 1048576
sample_short n some few = let e = each IsShort 40 n all_short some few in grind (arith, nat_tests, e)
