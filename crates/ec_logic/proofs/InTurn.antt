-- A domain, turn by turn.
use Rattle.std.proofs.Common.{◌≡◌, ℕ, suc, ◌+◌, ◌-◌, ◌<◌, ◌≤◌, nat_lt, Bool, true, false, ◌&&◌, if◌then◌else◌, filter, map, [], ◌∷◌, ℤ, pos, negsuc, ◌+ℤ◌, neg_ℤ, int_le, int_lt, Some, None, refl, arith}
use Rattle.std.proofs.lemmas.Int.{ints}
use Rattle.std.proofs.lemmas.Bool.Decides.{nat_tests}
use Rattle.std.specs.List.{range_with_len}
use Rattle.ec_logic.specs.Extent.{Extent, numbers, members, domain_of, rank, passing}
use Rattle.ec_logic.specs.Turns.{IsValueOf, turns, at_turn, values_from, before_others}

pub values_from-start : (extent : Extent) → values_from extent 0 ≡ domain_of extent
values_from-start (numbers least size) = let e : size - 0 ≡ size = omega arith in rw e refl
values_from-start (members count test) = let e : count - 0 ≡ count = omega arith in rw e refl

pub values_from-end : (extent : Extent) (k : ℕ) → turns extent ≤ k → values_from extent k ≡ []
values_from-end (numbers least size) k h = let e : size - k ≡ 0 = omega arith in rw e refl
values_from-end (members count test) k h = let e : count - k ≡ 0 = omega arith in rw e refl

pub values_from-step : (extent : Extent) (k : ℕ) → k < turns extent → values_from extent k ≡ before_others (at_turn extent k) (values_from extent (k + 1))
values_from-step (numbers least size) k h = let e : size - k ≡ suc (size - (k + 1)) = omega arith in rw e refl
values_from-step (members count test) k h = let e : count - k ≡ suc (count - (k + 1)) = omega arith in rw e (by_test (test k))
  where
    by_test : (b : Bool) → map pos (if b then k ∷ filter test (range_with_len (k + 1) (count - (k + 1))) else filter test (range_with_len (k + 1) (count - (k + 1)))) ≡ before_others (if b then Some (pos k) else None) (map pos (filter test (range_with_len (k + 1) (count - (k + 1)))))
    by_test true = refl
    by_test false = refl

-- the value at a turn is a value of the extent
pub turn_value : (extent : Extent) (k : ℕ) (v : ℤ) → k < turns extent → at_turn extent k ≡ Some v → IsValueOf extent v
turn_value (numbers least size) k v low h = by_place v (least +ℤ pos k +ℤ neg_ℤ least) refl h
  where
    by_place : (w d : ℤ) → least +ℤ pos k +ℤ neg_ℤ least ≡ d → Some (least +ℤ pos k) ≡ Some w → IsValueOf (numbers least size) w
    by_place w (pos n) e h =
        let same : least +ℤ pos k ≡ w = cc in
        let inside : (int_le least (least +ℤ pos k) && int_lt (least +ℤ pos k) (least +ℤ pos size)) ≡ true = grind (arith, ints, nat_tests) in
        let place : rank (numbers least size) (least +ℤ pos k) ≡ Some n = rw (inside, e) refl in
        (n, rw (← same) place)
    by_place w (negsuc n) e h = absurd (grind (arith, ints))
turn_value (members count test) k v low h = by_test (test k) refl h
  where
    by_test : (b : Bool) → test k ≡ b → (if b then Some (pos k) else None) ≡ Some v → IsValueOf (members count test) v
    by_test true e h =
        let same : pos k ≡ v = cc in
        let below : nat_lt k count ≡ true = grind (arith, nat_tests) in
        let place : rank (members count test) (pos k) ≡ Some (passing test 0 k) = rw (below, e) refl in
        (passing test 0 k, rw (← same) place)
    by_test false e h = cc
