-- A test that passes for all numbers of a range passes for each of them.
use Rattle.std.proofs.Common.{◌≡◌, ◌≤◌, ◌<◌, ℕ, zero, suc, ◌+◌, Bool, true, refl, ap, subst, arith}
use Rattle.std.proofs.lemmas.Bool.{and_parts}
use Rattle.std.specs.List.{list_all, range_with_len}

first_or_later : (P : Type 0) (a b : ℕ) → a ≤ b → (a ≡ b → P) → (a + 1 ≤ b → P) → P
first_or_later P zero zero l first later = first refl
first_or_later P zero (suc b) l first later = later (omega arith)
first_or_later P (suc a) zero l first later = absurd (omega (arith, l))
first_or_later P (suc a) (suc b) l first later = first_or_later P a b (omega (arith, l)) (λ e. first (ap suc e)) (λ h. later (omega (arith, h)))

pub passes : (test : ℕ → Bool) (from count n : ℕ) → list_all test (range_with_len from count) ≡ true → from ≤ n → n < from + count → test n ≡ true
passes test from zero n h low high = absurd (omega (arith, low, high))
passes test from (suc count) n h low high =
    let parts = and_parts (test from) (list_all test (range_with_len (from + 1) count)) h in
    first_or_later (test n ≡ true) from n low
    (λ e. subst (λ m. test m ≡ true) e parts.0)
    (λ later. passes test (from + 1) count n parts.1 later (omega (arith, high)))
