-- Tuples and atoms by their numbers.
use Rattle.std.proofs.Common.{◌≡◌, ℕ, zero, suc, ◌+◌, ◌-◌, ◌*◌, ◌/◌, ◌%◌, ◌<◌, ◌≤◌, ◌==◌, nat_lt, Bool, true, false, ◌&&◌, ◌||◌, if◌then◌else◌, List, [], ◌∷◌, ◌++◌, length, map, take, drop, get_or, ℤ, pos, negsuc, Option, Some, None, option_map, refl, sym, ap, ◌∙◌, arith, mul-le-mul_right}
use Rattle.std.specs.List.{flat_map, range_with_len}
use Rattle.std.proofs.Math.Nat.{div-lt_iff_lt-mul, mod-lt}
use Rattle.std.proofs.lemmas.Nat.{div-add-mod', div-mul-add, mod-mul-add}
use Rattle.std.proofs.lemmas.Int.{ints}
use Rattle.std.proofs.lemmas.Bool.Decides.{nat_tests}
use Rattle.std.proofs.lemmas.List.{length-append, take_more, drop_more, append_assoc}
use Rattle.std.proofs.lemmas.List.FromFn.{length-map-range_with_len}
use Rattle.ec_logic.specs.Extent.{Extent, numbers, members, size_of, rank, value_at, passing, passing_at}
use Rattle.ec_logic.specs.Universe.{Universe, extent_at, row_of, tuples, tuple_at, tuple_rank, ranked}
use Rattle.ec_logic.specs.Atom.{GroundAtom, atom_at, tuples_of, atoms_of, visible_atoms, all_atoms, visible_predicates, predicates_in_order, declared, atoms_before, number_of}
use Rattle.ec_logic.specs.Total.{total}
use Rattle.ec_logic.proofs.Tuples.{rank_below, rank_same, tuple_rank_below, tuple_rank_same}

-- ---- the value at a place

pub record IsPassingAt (test : ℕ → Bool) (from n k m : ℕ) : Type 0 where
  pub passes : test m ≡ true
  pub low : from ≤ m
  pub high : m < from + n
  pub count : passing test from (m - from) ≡ k

pub passing_at_is : (test : ℕ → Bool) (from n k : ℕ) → k < passing test from n → IsPassingAt test from n k (passing_at test from n k)
passing_at_is test from zero k h = absurd (omega (arith, h))
passing_at_is test from (suc n) zero h = by_test (test from) refl h (passing_at_is test (suc from) n zero)
  where
    by_test : (t : Bool) → test from ≡ t → 0 < (if t then suc (passing test (suc from) n) else passing test (suc from) n) → (0 < passing test (suc from) n → IsPassingAt test (suc from) n 0 (passing_at test (suc from) n 0))
        → IsPassingAt test from (suc n) 0 (if t then from else passing_at test (suc from) n 0)
    by_test true e h next = record { passes = e; low = omega arith; high = omega arith; count = let z : from - from ≡ 0 = omega arith in rw z refl }
    by_test false e h next =
        let r = next h in
        let m = passing_at test (suc from) n 0 in
        let step : m - from ≡ suc (m - suc from) = omega (arith, r.low) in
        record { passes = r.passes; low = omega (arith, r.low); high = omega (arith, r.high); count = rw (step, e) r.count }
passing_at_is test from (suc n) (suc k) h = by_test (test from) refl h (passing_at_is test (suc from) n k) (passing_at_is test (suc from) n (suc k))
  where
    by_test : (t : Bool) → test from ≡ t → suc k < (if t then suc (passing test (suc from) n) else passing test (suc from) n)
        → (k < passing test (suc from) n → IsPassingAt test (suc from) n k (passing_at test (suc from) n k)) → (suc k < passing test (suc from) n → IsPassingAt test (suc from) n (suc k) (passing_at test (suc from) n (suc k)))
        → IsPassingAt test from (suc n) (suc k) (if t then passing_at test (suc from) n k else passing_at test (suc from) n (suc k))
    by_test true e h next other =
        let r = next (omega (arith, h)) in
        let m = passing_at test (suc from) n k in
        let step : m - from ≡ suc (m - suc from) = omega (arith, r.low) in
        record { passes = r.passes; low = omega (arith, r.low); high = omega (arith, r.high); count = rw (step, e) (ap suc r.count) }
    by_test false e h next other =
        let r = other h in
        let m = passing_at test (suc from) n (suc k) in
        let step : m - from ≡ suc (m - suc from) = omega (arith, r.low) in
        record { passes = r.passes; low = omega (arith, r.low); high = omega (arith, r.high); count = rw (step, e) r.count }

pub rank-value_at : (e : Extent) (k : ℕ) → k < size_of e → rank e (value_at e k) ≡ Some k
rank-value_at (numbers least size) k h = grind (arith, ints, nat_tests)
rank-value_at (members count test) k h =
    let r = passing_at_is test 0 count k h in
    let m = passing_at test 0 count k in
    let low : nat_lt m count ≡ true = grind (arith, nat_tests, r.high) in
    let z : m - 0 ≡ m = omega arith in
    rw (low, r.passes) (ap Some (rw z at r.count))

-- ---- the tuple at a place

factor_positive : (k s n : ℕ) → k < s * n → 0 < n
factor_positive k s zero h = absurd (omega (arith, h))
factor_positive k s (suc n) h = omega arith

pub quotient_below : (k n s : ℕ) → k < s * n → k / n < s
quotient_below k n s h = (div-lt_iff_lt-mul (factor_positive k s n h)).1 h

pub rest_positive : (k s n : ℕ) → k < s * n → 0 < n
rest_positive k s n h = factor_positive k s n h

-- each place below the count has a tuple, whose place it is
pub tuple_rank-tuple_at : (universe : Universe) (ss : List ℕ) (k : ℕ) → k < tuples universe ss → tuple_rank universe ss (tuple_at universe ss k) ≡ Some k
tuple_rank-tuple_at universe [] k h = ap Some (omega (arith, h))
tuple_rank-tuple_at universe (s ∷ ss) k h =
    let n = tuples universe ss in
    let q = quotient_below k n (size_of (extent_at universe s)) h in
    let r = mod-lt k (factor_positive k (size_of (extent_at universe s)) n h) in
    rw (rank-value_at (extent_at universe s) (k / n) q, tuple_rank-tuple_at universe ss (k % n) r) (ap Some (div-add-mod' k n))

-- a tuple with a place is the tuple at that place
pub tuple_at-tuple_rank : (universe : Universe) (ss : List ℕ) (vs : List ℤ) (k : ℕ) → tuple_rank universe ss vs ≡ Some k → tuple_at universe ss k ≡ vs
tuple_at-tuple_rank universe ss vs k h =
    let low = tuple_rank_below universe ss vs k h in
    tuple_rank_same universe ss (tuple_at universe ss k) vs k (tuple_rank-tuple_at universe ss k low) h

-- ---- how many atoms some predicates have

pub total-append : (universe : Universe) (qs rs : List ℕ) → total universe (qs ++ rs) ≡ total universe qs + total universe rs
total-append universe [] rs = omega arith
total-append universe (q ∷ qs) rs = let h = total-append universe qs rs in omega (arith, h)

length_atoms : (universe : Universe) (qs : List ℕ) → length (flat_map (atoms_of universe) qs) ≡ total universe qs
length_atoms universe [] = refl
length_atoms universe (q ∷ qs) =
    length-append (atoms_of universe q) (flat_map (atoms_of universe) qs) ∙
    (let here = length-map-range_with_len (atom_at universe q) 0 (tuples_of universe q) in let later = length_atoms universe qs in omega (arith, here, later))

pub visible_count : (universe : Universe) → length (visible_atoms universe) ≡ total universe (visible_predicates universe)
visible_count universe = length_atoms universe (visible_predicates universe)

pub all_count : (universe : Universe) → length (all_atoms universe) ≡ total universe (predicates_in_order universe)
all_count universe = length_atoms universe (predicates_in_order universe)
