-- The places of values and of tuples.
use Rattle.std.proofs.Common.{◌≡◌, ℕ, zero, suc, ◌+◌, ◌*◌, ◌-◌, ◌<◌, ◌≤◌, nat_lt, Bool, true, false, ◌&&◌, if◌then◌else◌, List, [], ◌∷◌, ◌++◌, length, get_or, take, refl, sym, ap, arith, ℤ, pos, negsuc, ◌+ℤ◌, neg_ℤ, int_le, int_lt, Option, Some, None, option_map, mul-le-mul_right}
use Rattle.std.proofs.lemmas.Int.{ints}
use Rattle.std.proofs.lemmas.Bool.Decides.{nat_tests}
use Rattle.std.proofs.lemmas.List.{take_more}
use Rattle.ec_logic.specs.Extent.{Extent, numbers, members, size_of, rank, natural, passing}
use Rattle.ec_logic.specs.Universe.{Universe, extent_at, tuples, ranked, tuple_rank}
use Rattle.ec_logic.proofs.Tests.{and_parts}

-- ---- how many numbers pass a test

pub passing_sum : (test : ℕ → Bool) (from a b : ℕ) → passing test from (a + b) ≡ passing test from a + passing test (from + a) b
passing_sum test from zero b =
    let e : 0 + b ≡ b = omega arith in
    let f : from + 0 ≡ from = omega arith in
    rw (e, f) (omega arith)
passing_sum test from (suc a) b =
    let e : suc a + b ≡ suc (a + b) = omega arith in
    let f : from + suc a ≡ suc from + a = omega arith in
    rw (e, f) (by_test (test from) (passing_sum test (suc from) a b))
  where
    by_test : (t : Bool) → passing test (suc from) (a + b) ≡ passing test (suc from) a + passing test (suc from + a) b
        → (if t then suc (passing test (suc from) (a + b)) else passing test (suc from) (a + b)) ≡ (if t then suc (passing test (suc from) a) else passing test (suc from) a) + passing test (suc from + a) b
    by_test true h = omega (arith, h)
    by_test false h = h

passing_one : (test : ℕ → Bool) (n more : ℕ) → test n ≡ true → 1 ≤ passing test n (suc more)
passing_one test n more h = rw h (omega arith)

-- one that passes is counted before those that come after it
pub passing_grows : (test : ℕ → Bool) (n m : ℕ) → test n ≡ true → n < m → passing test 0 n < passing test 0 m
passing_grows test n m h low =
    let e : m ≡ n + suc (m - suc n) = omega arith in
    let f : 0 + n ≡ n = omega arith in
    let s = rw f at (passing_sum test 0 n (suc (m - suc n))) in
    let one = passing_one test n (m - suc n) h in
    rw e (omega (arith, s, one))

-- ---- the place of a value

pub rank_below : (extent : Extent) (v : ℤ) (r : ℕ) → rank extent v ≡ Some r → r < size_of extent
rank_below (numbers least size) v r h = by_test (int_le least v && int_lt v (least +ℤ pos size)) refl h
  where
    by_place : (d : ℤ) → v +ℤ neg_ℤ least ≡ d → int_lt v (least +ℤ pos size) ≡ true → natural d ≡ Some r → r < size
    by_place (pos n) e l h = let same : n ≡ r = cc in grind (arith, ints, nat_tests)
    by_place (negsuc n) e l h = cc

    by_test : (b : Bool) → (int_le least v && int_lt v (least +ℤ pos size)) ≡ b → (if b then natural (v +ℤ neg_ℤ least) else None) ≡ Some r → r < size
    by_test true e h = by_place (v +ℤ neg_ℤ least) refl (and_parts (int_le least v) (int_lt v (least +ℤ pos size)) e).1 h
    by_test false e h = cc
rank_below (members count test) (pos n) r h = by_test (nat_lt n count && test n) refl h
  where
    by_test : (b : Bool) → (nat_lt n count && test n) ≡ b → (if b then Some (passing test 0 n) else None) ≡ Some r → r < passing test 0 count
    by_test true e h =
        let both = and_parts (nat_lt n count) (test n) e in
        let low : n < count = grind (arith, nat_tests) in
        let same : passing test 0 n ≡ r = cc in
        rw (← same) (passing_grows test n count both.1 low)
    by_test false e h = cc
rank_below (members count test) (negsuc n) r h = cc

-- two values at one place are one
pub rank_same : (extent : Extent) (v w : ℤ) (r : ℕ) → rank extent v ≡ Some r → rank extent w ≡ Some r → v ≡ w
rank_same (numbers least size) v w r h k = by_tests (int_le least v && int_lt v (least +ℤ pos size)) (int_le least w && int_lt w (least +ℤ pos size)) h k
  where
    by_places : (a b : ℤ) → v +ℤ neg_ℤ least ≡ a → w +ℤ neg_ℤ least ≡ b → natural a ≡ Some r → natural b ≡ Some r → v ≡ w
    by_places (pos n) (pos m) d e h k = let same : n ≡ m = cc in grind (arith, ints)
    by_places (pos n) (negsuc m) d e h k = cc
    by_places (negsuc n) b d e h k = cc

    by_tests : (a b : Bool) → (if a then natural (v +ℤ neg_ℤ least) else None) ≡ Some r → (if b then natural (w +ℤ neg_ℤ least) else None) ≡ Some r → v ≡ w
    by_tests true true h k = by_places (v +ℤ neg_ℤ least) (w +ℤ neg_ℤ least) refl refl h k
    by_tests true false h k = cc
    by_tests false b h k = cc
rank_same (members count test) (pos n) (pos m) r h k = by_tests (nat_lt n count && test n) (nat_lt m count && test m) refl refl h k
  where
    apart : test n ≡ true → test m ≡ true → passing test 0 n ≡ passing test 0 m → n ≡ m
    apart s t e = grind (arith, passing_grows test n m s, passing_grows test m n t)

    by_tests : (a b : Bool) → (nat_lt n count && test n) ≡ a → (nat_lt m count && test m) ≡ b → (if a then Some (passing test 0 n) else None) ≡ Some r → (if b then Some (passing test 0 m) else None) ≡ Some r → pos n ≡ pos m
    by_tests true true s t h k =
        let same : passing test 0 n ≡ passing test 0 m = cc in
        ap pos (apart (and_parts (nat_lt n count) (test n) s).1 (and_parts (nat_lt m count) (test m) t).1 same)
    by_tests true false s t h k = cc
    by_tests false b s t h k = cc
rank_same (members count test) (pos n) (negsuc m) r h k = cc
rank_same (members count test) (negsuc n) w r h k = cc

-- ---- the place of a tuple

pub tuples-append : (universe : Universe) (xs ys : List ℕ) → tuples universe (xs ++ ys) ≡ tuples universe xs * tuples universe ys
tuples-append universe [] ys = omega arith
tuples-append universe (x ∷ xs) ys = rw (tuples-append universe xs ys) (omega arith)

-- one more sort
pub tuples_take_more : (universe : Universe) (ss : List ℕ) (i : ℕ) → i < length ss → tuples universe (take (i + 1) ss) ≡ tuples universe (take i ss) * size_of (extent_at universe (get_or ss i 0))
tuples_take_more universe ss i h = rw (take_more ss i 0 h, tuples-append) (omega arith)

pub tuple_rank_lengths : (universe : Universe) (ss : List ℕ) (vs : List ℤ) → (length ss ≡ length vs → ⊥) → tuple_rank universe ss vs ≡ None
tuple_rank_lengths universe [] [] h = absurd (h refl)
tuple_rank_lengths universe [] (v ∷ vs) h = refl
tuple_rank_lengths universe (s ∷ ss) [] h = refl
tuple_rank_lengths universe (s ∷ ss) (v ∷ vs) h = rw (tuple_rank_lengths universe ss vs (λ e. h (omega (arith, e)))) (none_last (tuples universe ss) (rank (extent_at universe s) v))
  where
    none_last : (n : ℕ) (o : Option ℕ) → ranked n o None ≡ None
    none_last n None = refl
    none_last n (Some k) = refl

-- the place so far, with one more value
ranked_step : (acc size count r : ℕ) (o : Option ℕ) → option_map (λ k. acc * (size * count) + k) (ranked count (Some r) o) ≡ option_map (λ k. (acc * size + r) * count + k) o
ranked_step acc size count r None = refl
ranked_step acc size count r (Some k) = ap Some (omega arith)

pub tuple_rank_step : (universe : Universe) (acc s r : ℕ) (ss : List ℕ) (v : ℤ) (vs : List ℤ) → rank (extent_at universe s) v ≡ Some r → option_map (λ k. acc * tuples universe (s ∷ ss) + k) (tuple_rank universe (s ∷ ss) (v ∷ vs)) ≡ option_map (λ k. (acc * size_of (extent_at universe s) + r) * tuples universe ss + k) (tuple_rank universe ss vs)
tuple_rank_step universe acc s r ss v vs h = rw h (ranked_step acc (size_of (extent_at universe s)) (tuples universe ss) r (tuple_rank universe ss vs))

digit_below : (acc r n s : ℕ) → acc < n → r < s → acc * s + r < n * s
digit_below acc r n s a b = let least : acc + 1 ≤ n = omega arith in let m : (acc + 1) * s ≤ n * s = mul-le-mul_right s least in omega arith

pub tuple_rank_below : (universe : Universe) (ss : List ℕ) (vs : List ℤ) (k : ℕ) → tuple_rank universe ss vs ≡ Some k → k < tuples universe ss
tuple_rank_below universe [] [] k h = let e : 0 ≡ k = cc in omega arith
tuple_rank_below universe [] (v ∷ vs) k h = cc
tuple_rank_below universe (s ∷ ss) [] k h = cc
tuple_rank_below universe (s ∷ ss) (v ∷ vs) k h = by_parts (tuple_rank_below universe ss vs) (rank (extent_at universe s) v) (tuple_rank universe ss vs) refl refl h
  where
    by_parts : ((j : ℕ) → tuple_rank universe ss vs ≡ Some j → j < tuples universe ss) → (a b : Option ℕ) → rank (extent_at universe s) v ≡ a → tuple_rank universe ss vs ≡ b → ranked (tuples universe ss) a b ≡ Some k → k < size_of (extent_at universe s) * tuples universe ss
    by_parts below None b d e h = cc
    by_parts below (Some i) None d e h = cc
    by_parts below (Some i) (Some j) d e h =
        let same : i * tuples universe ss + j ≡ k = cc in
        rw (← same) (digit_below i j (size_of (extent_at universe s)) (tuples universe ss) (rank_below (extent_at universe s) v i d) (below j e))

same_digits : (i j a b n : ℕ) → a < n → b < n → i * n + a ≡ j * n + b → (i ≡ j) × (a ≡ b)
same_digits i j a b n x y e = by_order (nat_lt i j) (nat_lt j i) refl refl
  where
    -- a greater digit makes a greater number
    apart : (p q c d : ℕ) → c < n → p < q → p * n + c ≡ q * n + d → ⊥
    apart p q c d low less e = let m : (p + 1) * n ≤ q * n = mul-le-mul_right n (omega arith) in omega arith

    by_order : (s t : Bool) → nat_lt i j ≡ s → nat_lt j i ≡ t → (i ≡ j) × (a ≡ b)
    by_order true t p q = absurd (apart i j a b x (grind (arith, nat_tests)) e)
    by_order false true p q = absurd (apart j i b a y (grind (arith, nat_tests)) (sym e))
    by_order false false p q =
        let same : i ≡ j = grind (arith, nat_tests) in
        (same, let f = ap (λ d. d * n) same in omega (arith, f, e))

-- two tuples at one place are one
pub tuple_rank_same : (universe : Universe) (ss : List ℕ) (us vs : List ℤ) (k : ℕ) → tuple_rank universe ss us ≡ Some k → tuple_rank universe ss vs ≡ Some k → us ≡ vs
tuple_rank_same universe [] [] [] k h i = refl
tuple_rank_same universe [] [] (v ∷ vs) k h i = cc
tuple_rank_same universe [] (u ∷ us) vs k h i = cc
tuple_rank_same universe (s ∷ ss) [] vs k h i = cc
tuple_rank_same universe (s ∷ ss) (u ∷ us) [] k h i = cc
tuple_rank_same universe (s ∷ ss) (u ∷ us) (v ∷ vs) k h i =
    by_parts (tuple_rank_same universe ss us vs) (rank (extent_at universe s) u) (tuple_rank universe ss us) (rank (extent_at universe s) v) (tuple_rank universe ss vs) refl refl refl refl h i
  where
    by_parts : ((j : ℕ) → tuple_rank universe ss us ≡ Some j → tuple_rank universe ss vs ≡ Some j → us ≡ vs) → (a b c d : Option ℕ) → rank (extent_at universe s) u ≡ a → tuple_rank universe ss us ≡ b → rank (extent_at universe s) v ≡ c → tuple_rank universe ss vs ≡ d
        → ranked (tuples universe ss) a b ≡ Some k → ranked (tuples universe ss) c d ≡ Some k → u ∷ us ≡ v ∷ vs
    by_parts rest_same None b c d p q r t h i = cc
    by_parts rest_same (Some x) None c d p q r t h i = cc
    by_parts rest_same (Some x) (Some y) None d p q r t h i = cc
    by_parts rest_same (Some x) (Some y) (Some z) None p q r t h i = cc
    by_parts rest_same (Some x) (Some y) (Some z) (Some w) p q r t h i =
        let e : x * tuples universe ss + y ≡ z * tuples universe ss + w = cc in
        let same = same_digits x z y w (tuples universe ss) (tuple_rank_below universe ss us y q) (tuple_rank_below universe ss vs w t) e in
        let first : rank (extent_at universe s) v ≡ Some x = rw (← same.0) at r in
        let rest : tuple_rank universe ss vs ≡ Some y = rw (← same.1) at t in
        let head = rank_same (extent_at universe s) u v x p first in
        let tail = rest_same y q rest in
        cc
