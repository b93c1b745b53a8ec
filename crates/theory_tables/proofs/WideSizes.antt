-- How many ground events and fluents the wide signature has: more than can be counted one by one.
use Rattle.std.proofs.Common.{◌≡◌, ℕ, zero, suc, true, refl, ap}
use Rattle.ec_logic.specs.Extent.{passing}
use Rattle.ec_logic.specs.Universe.{universe_of, universe_with}
use Rattle.theory_tables.specs.Samples.{wide}

pub passing_all : (from n : ℕ) → passing (λ k. true) from n ≡ n
passing_all from zero = refl
passing_all from (suc n) = ap suc (passing_all (suc from) n)

-- 2,000,001 to the third power and squared
pub so_many : universe_of wide ≡ universe_with wide 8000012000006000001 4000004000001
so_many = refl
