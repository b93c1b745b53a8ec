-- Sums and products that stop at 2^62.
use Rattle.std.proofs.Common.{◌≡◌, ℕ, ◌+◌, ◌*◌, ap, ◌∙◌, arith}
use Rattle.ec_theory.specs.Sizes.{stopped}
use Rattle.ec_theory.proofs.SizeLemmas.{stopped_times}

-- a product stops where that of its stopped sides does
pub stopped_sides : (a b : ℕ) → stopped (stopped a * stopped b) ≡ stopped (a * b)
stopped_sides a b =
    let swap : a * stopped b ≡ stopped b * a = omega arith in
    let back : b * a ≡ a * b = omega arith in
    stopped_times a (stopped b) ∙ ap stopped swap ∙ stopped_times b a ∙ ap stopped back

pub stopped_next : (a n : ℕ) → a ≡ stopped n → stopped (1 + a) ≡ stopped (1 + n)
stopped_next a n e = omega arith

pub stopped_copies : (a b m n : ℕ) → a ≡ stopped m → b ≡ stopped n → stopped (a * b) ≡ stopped (m * n)
stopped_copies a b m n e f = rw (e, f) (stopped_sides m n)

pub stopped_over : (a b m n : ℕ) → a ≡ stopped m → b ≡ stopped n → stopped (1 + a * b) ≡ stopped (1 + m * n)
stopped_over a b m n e f = let p = stopped_copies a b m n e f in omega (arith, p)

pub stopped_under : (h b w k m n : ℕ) → h ≡ stopped k → b ≡ stopped m → w ≡ stopped n → stopped (1 + (h * b + w)) ≡ stopped (1 + (k * m + n))
stopped_under h b w k m n e f g = let p = stopped_copies h b k m e f in omega (arith, p, g)
