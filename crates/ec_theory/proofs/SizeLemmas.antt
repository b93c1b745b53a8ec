-- Counting, and stopping at 2^62.
use Rattle.std.proofs.Common.{◌≡◌, List, length, get_or, drop, slice_get, unwrap_or, ℕ, zero, suc, ◌+◌, ◌*◌, ◌<◌, ◌≤◌, ◌^◌, Bool, true, false, nat_le, ℤ, pos, neg_ℤ, ◌+ℤ◌, ◌≤ℤ◌, int_le, Some, ◌&&◌, refl, sym, ap, ◌∙◌, arith}
use Rattle.std.proofs.lemmas.Bool.Decides.{nat_tests}
use Rattle.std.proofs.lemmas.Int.{ints}
use Rattle.ec_logic.proofs.Tests.{and_parts}
use Rattle.ec_logic.specs.Extent.{passing, size_of}
use Rattle.ec_logic.specs.Universe.{extent_of_range}
use Rattle.ec_logic.specs.Valid.{is_range, range_limit}
use Rattle.std.proofs.lemmas.List.{drop_more, drop_all}
use Rattle.ec_logic.specs.Signature.{SymbolRow}
use Rattle.ec_theory.specs.Sizes.{stopped, product_of_sizes, sum_of_products}

pub passing_all : (from n : ℕ) → passing (λ k. true) from n ≡ n
passing_all from zero = refl
passing_all from (suc n) = ap suc (passing_all (suc from) n)

pub stopped_times : (a b : ℕ) → stopped (stopped a * b) ≡ stopped (a * b)
stopped_times a zero = omega arith
stopped_times a (suc n) = cases (nat_le a (2 ^ 62)) refl
  where
    cases : (b : Bool) → nat_le a (2 ^ 62) ≡ b → stopped (stopped a * suc n) ≡ stopped (a * suc n)
    cases true e = let k : stopped a ≡ a = grind (arith, nat_tests) in rw k refl
    cases false e = let k : stopped a ≡ 2 ^ 62 = grind (arith, nat_tests) in let l : 2 ^ 62 < a = grind (arith, nat_tests) in rw k (omega arith)

pub stopped_plus : (a b : ℕ) → stopped (stopped a + b) ≡ stopped (a + b)
stopped_plus a b = omega arith

pub stopped_product : (acc size rest : ℕ) → stopped (acc * (size * rest)) ≡ stopped (stopped (acc * stopped size) * rest)
stopped_product acc size rest =
    let e : acc * (size * rest) ≡ size * (acc * rest) = omega arith in
    let g : acc * stopped size * rest ≡ stopped size * (acc * rest) = omega arith in
    ap stopped e ∙ sym (stopped_times size (acc * rest)) ∙ ap stopped (sym g) ∙ sym (stopped_times (acc * stopped size) rest)

pub stopped_small : (n : ℕ) → n < 2 ^ 32 → stopped n ≡ n
stopped_small n h = omega arith

pub product_step : (sizes sorts : List ℕ) (i acc p : ℕ) → i < length sorts → p ≡ stopped (acc * unwrap_or (slice_get sizes (get_or sorts i 0)) 0) → stopped (acc * product_of_sizes sizes (drop i sorts)) ≡ stopped (p * product_of_sizes sizes (drop (i + 1) sorts))
product_step sizes sorts i acc p h e = rw (drop_more sorts i 0 h, e) (
    let z = unwrap_or (slice_get sizes (get_or sorts i 0)) 0 in
    let rest = product_of_sizes sizes (drop (i + 1) sorts) in
    let a : acc * (z * rest) ≡ acc * z * rest = omega arith in
    ap stopped a ∙ sym (stopped_times (acc * z) rest))

pub product_ends : (sizes sorts : List ℕ) (i acc : ℕ) → length sorts ≤ i → acc ≤ 2 ^ 62 → stopped (acc * product_of_sizes sizes (drop i sorts)) ≡ acc
product_ends sizes sorts i acc h l = rw (drop_all i sorts h) (omega arith)

pub sum_step : (sizes : List ℕ) (rows : List SymbolRow) (i acc p : ℕ) (d : SymbolRow) → i < length rows → p ≡ stopped (acc + stopped (product_of_sizes sizes (get_or rows i d).sorts)) → stopped (acc + sum_of_products sizes (drop i rows)) ≡ stopped (p + sum_of_products sizes (drop (i + 1) rows))
sum_step sizes rows i acc p d h e = rw (drop_more rows i d h, e) (omega arith)

pub sum_ends : (sizes : List ℕ) (rows : List SymbolRow) (i acc : ℕ) → length rows ≤ i → acc ≤ 2 ^ 62 → stopped (acc + sum_of_products sizes (drop i rows)) ≡ acc
sum_ends sizes rows i acc h l = rw (drop_all i rows h) (omega arith)

-- ---- the ends of a range

module _ (a b : ℤ) (h : is_range (Some (a, b)) ≡ true) where
  parts : ((int_le (neg_ℤ (pos range_limit)) a && int_le a b) ≡ true) × (int_le b (pos range_limit) ≡ true)
  parts = and_parts (int_le (neg_ℤ (pos range_limit)) a && int_le a b) (int_le b (pos range_limit)) h

  firsts : (int_le (neg_ℤ (pos range_limit)) a ≡ true) × (int_le a b ≡ true)
  firsts = and_parts (int_le (neg_ℤ (pos range_limit)) a) (int_le a b) parts.0

  pub range_low : neg_ℤ (pos range_limit) ≤ℤ a
  range_low = omega (arith, ints, firsts.0)

  pub range_order : a ≤ℤ b
  range_order = omega (arith, ints, firsts.1)

  pub range_high : b ≤ℤ pos range_limit
  range_high = omega (arith, ints, parts.1)

pub range_count : (a b : ℤ) (n : ℕ) → pos n ≡ b +ℤ neg_ℤ a +ℤ pos 1 → n ≡ size_of (extent_of_range (Some (a, b)))
range_count a b n e = rw (← e) refl
