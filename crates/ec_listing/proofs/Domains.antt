-- The values of a domain: each once, and no others.
use Rattle.std.proofs.Common.{◌≡◌, ◌≢◌, ℕ, zero, suc, ◌+◌, ◌<◌, ◌≤◌, nat_lt, Bool, true, false, ◌&&◌, if◌then◌else◌, List, [], ◌∷◌, length, map, filter, ℤ, pos, negsuc, ◌+ℤ◌, neg_ℤ, int_le, int_lt, Contains, Some, None, get_or, refl, ap, ◌∙◌, subst, arith}
use Rattle.std.specs.List.{AllByRecursion, range_with_len}
use Rattle.std.proofs.lemmas.Int.{ints}
use Rattle.std.proofs.lemmas.Bool.Decides.{nat_tests}
use Rattle.ec_logic.specs.Extent.{Extent, numbers, members, domain_of, size_of, natural, passing}
use Rattle.ec_logic.specs.Turns.{IsValueOf}
use Rattle.ec_logic.proofs.Numbering.{rank-value_at}
use Rattle.ec_logic.proofs.Tests.{and_parts}
use Rattle.ec_listing.proofs.Lists.{AreDifferent, each_map, each_weaker}

-- ---- the numbers from one on

numbers_from : (P : ℕ → Type 0) (from n : ℕ) → ((k : ℕ) → from ≤ k → k < from + n → P k) → AllByRecursion P (range_with_len from n)
numbers_from P from zero h = tt
numbers_from P from (suc n) h = (h from (omega arith) (omega arith), numbers_from P (from + 1) n (λ k l m. h k (omega (arith, l)) (omega (arith, m))))

pub range_each : (P : ℕ → Type 0) (n : ℕ) → ((k : ℕ) → k < n → P k) → AllByRecursion P (range_with_len 0 n)
range_each P n h = numbers_from P 0 n (λ k l m. h k (omega (arith, m)))

pub range_different : (from n : ℕ) → AreDifferent (range_with_len from n)
range_different from zero = tt
range_different from (suc n) = (numbers_from (λ k. from ≢ k) (from + 1) n (λ k l m. λ e. omega (arith, l, e)), range_different (from + 1) n)

range_contains : (from n k : ℕ) → from ≤ k → k < from + n → Contains (range_with_len from n) k
range_contains from zero k l h = absurd (omega (arith, l, h))
range_contains from (suc n) k l h = by_test (nat_lt from k) refl (range_contains (from + 1) n k)
  where
    by_test : (b : Bool) → nat_lt from k ≡ b → (from + 1 ≤ k → k < from + 1 + n → Contains (range_with_len (from + 1) n) k) → Contains (range_with_len from (suc n)) k
    by_test true e next = let later = next (grind (arith, nat_tests)) (omega (arith, h)) in (suc later.0, omega (arith, later.1), later.2)
    by_test false e next = (0, omega arith, grind (arith, nat_tests))

-- ---- lists of values

module _ {A B : Type 0} (f : B → A) where
  pub mapped_different : ((x y : B) → f x ≡ f y → x ≡ y) → (xs : List B) → AreDifferent xs → AreDifferent (map f xs)
  mapped_different one [] h = tt
  mapped_different one (x ∷ xs) h = (each xs h.0, mapped_different one xs h.1)
    where
      each : (ys : List B) → AllByRecursion (λ y. x ≢ y) ys → AllByRecursion (λ z. f x ≢ z) (map f ys)
      each [] k = tt
      each (y ∷ ys) k = (λ e. k.0 (one x y e), each ys k.1)

  pub mapped_contains : (xs : List B) (x : B) → Contains xs x → Contains (map f xs) (f x)
  mapped_contains xs x h = at xs h.0 h.1 h.2
    where
      at : (ys : List B) (k : ℕ) → k < length ys → get_or ys k x ≡ x → Contains (map f ys) (f x)
      at [] k l e = absurd (omega (arith, l))
      at (y ∷ ys) zero l e = (0, omega arith, ap f e)
      at (y ∷ ys) (suc k) l e = let later = at ys k (omega (arith, l)) e in (suc later.0, omega (arith, later.1), later.2)

module _ (test : ℕ → Bool) where
  kept_each : (P : ℕ → Type 0) (xs : List ℕ) → AllByRecursion P xs → AllByRecursion (λ x. P x × (test x ≡ true)) (filter test xs)
  kept_each P [] h = tt
  kept_each P (x ∷ xs) h = by_test (test x) refl (kept_each P xs h.1)
    where
      by_test : (b : Bool) → test x ≡ b → AllByRecursion (λ y. P y × (test y ≡ true)) (filter test xs) → AllByRecursion (λ y. P y × (test y ≡ true)) (if b then x ∷ filter test xs else filter test xs)
      by_test true e later = ((h.0, e), later)
      by_test false e later = later

  weaker : (P : ℕ → Type 0) (xs : List ℕ) → AllByRecursion P xs → AllByRecursion P (filter test xs)
  weaker P [] h = tt
  weaker P (x ∷ xs) h = by_test (test x) refl (weaker P xs h.1)
    where
      by_test : (b : Bool) → test x ≡ b → AllByRecursion P (filter test xs) → AllByRecursion P (if b then x ∷ filter test xs else filter test xs)
      by_test true e later = (h.0, later)
      by_test false e later = later

  kept_different : (xs : List ℕ) → AreDifferent xs → AreDifferent (filter test xs)
  kept_different [] h = tt
  kept_different (x ∷ xs) h = by_test (test x) refl (kept_different xs h.1)
    where
      by_test : (b : Bool) → test x ≡ b → AreDifferent (filter test xs) → AreDifferent (if b then x ∷ filter test xs else filter test xs)
      by_test true e later = (weaker (λ y. x ≢ y) xs h.0, later)
      by_test false e later = later

  kept_contains : (xs : List ℕ) (x : ℕ) → test x ≡ true → Contains xs x → Contains (filter test xs) x
  kept_contains xs x t h = at xs h.0 h.1 h.2
    where
      at : (ys : List ℕ) (k : ℕ) → k < length ys → get_or ys k x ≡ x → Contains (filter test ys) x
      at [] k l e = absurd (omega (arith, l))
      at (y ∷ ys) zero l e = by_test (test y) refl
        where
          by_test : (b : Bool) → test y ≡ b → Contains (if b then y ∷ filter test ys else filter test ys) x
          by_test true d = (0, omega arith, e)
          by_test false d = let same = ap test e in cc
      at (y ∷ ys) (suc k) l e = by_test (test y) refl (at ys k (omega (arith, l)) e)
        where
          by_test : (b : Bool) → test y ≡ b → Contains (filter test ys) x → Contains (if b then y ∷ filter test ys else filter test ys) x
          by_test true d later = (suc later.0, omega (arith, later.1), later.2)
          by_test false d later = later

-- ---- domains

-- each is a value
pub domain_values : (e : Extent) → AllByRecursion (IsValueOf e) (domain_of e)
domain_values (numbers least size) = each_map (IsValueOf (numbers least size)) (λ k. least +ℤ pos k) (range_with_len 0 size) (range_each (λ k. IsValueOf (numbers least size) (least +ℤ pos k)) size (λ k l. (k, rank-value_at (numbers least size) k l)))
domain_values (members count test) = each_map (IsValueOf (members count test)) pos (filter test (range_with_len 0 count))
    (each_weaker (λ k. (k < count) × (test k ≡ true)) (λ k. IsValueOf (members count test) (pos k)) (λ k h. is k h.0 h.1) (filter test (range_with_len 0 count)) (kept_each test (λ k. k < count) (range_with_len 0 count) (range_each (λ k. k < count) count (λ k l. l))))
  where
    is : (k : ℕ) → k < count → test k ≡ true → IsValueOf (members count test) (pos k)
    is k l t = (passing test 0 k, (let low : nat_lt k count ≡ true = grind (arith, nat_tests) in rw (low, t) refl))

pub domain_different : (e : Extent) → AreDifferent (domain_of e)
domain_different (numbers least size) = mapped_different (λ k. least +ℤ pos k) (λ x y h. omega (arith, ints, h)) (range_with_len 0 size) (range_different 0 size)
domain_different (members count test) = mapped_different pos (λ x y h. (let same : x ≡ y = cc in same)) (filter test (range_with_len 0 count)) (kept_different test (range_with_len 0 count) (range_different 0 count))

-- each value is there
pub domain_contains : (e : Extent) (v : ℤ) → IsValueOf e v → Contains (domain_of e) v
domain_contains (numbers least size) v h = by_test (int_le least v && int_lt v (least +ℤ pos size)) refl h.1
  where
    by_place : (d : ℤ) → v +ℤ neg_ℤ least ≡ d → int_lt v (least +ℤ pos size) ≡ true → natural d ≡ Some h.0 → Contains (domain_of (numbers least size)) v
    by_place (pos n) e l k =
        let low : n < size = grind (arith, ints, nat_tests) in
        let is : least +ℤ pos n ≡ v = omega (arith, ints, e) in
        let P : ℤ → Type 0 = λ w. Contains (domain_of (numbers least size)) w in
        subst P is (mapped_contains (λ j. least +ℤ pos j) (range_with_len 0 size) n (range_contains 0 size n (omega arith) (omega (arith, low))))
    by_place (negsuc n) e l k = cc

    by_test : (b : Bool) → (int_le least v && int_lt v (least +ℤ pos size)) ≡ b → (if b then natural (v +ℤ neg_ℤ least) else None) ≡ Some h.0 → Contains (domain_of (numbers least size)) v
    by_test true e k = by_place (v +ℤ neg_ℤ least) refl (and_parts (int_le least v) (int_lt v (least +ℤ pos size)) e).1 k
    by_test false e k = cc
domain_contains (members count test) (pos n) h = by_test (nat_lt n count && test n) refl h.1
  where
    by_test : (b : Bool) → (nat_lt n count && test n) ≡ b → (if b then Some (passing test 0 n) else None) ≡ Some h.0 → Contains (domain_of (members count test)) (pos n)
    by_test true e k =
        let both = and_parts (nat_lt n count) (test n) e in
        let low : n < count = let l = both.0 in grind (arith, nat_tests) in
        mapped_contains pos (filter test (range_with_len 0 count)) n (kept_contains test (range_with_len 0 count) n both.1 (range_contains 0 count n (omega arith) (omega (arith, low))))
    by_test false e k = cc
domain_contains (members count test) (negsuc n) h = cc

pub domain_length : (e : Extent) → length (domain_of e) ≡ size_of e
domain_length (numbers least size) = mapped (λ k. least +ℤ pos k) 0 size
  where
    mapped : (f : ℕ → ℤ) (from n : ℕ) → length (map f (range_with_len from n)) ≡ n
    mapped f from zero = refl
    mapped f from (suc n) = ap suc (mapped f (from + 1) n)
domain_length (members count test) = mapped (filter test (range_with_len 0 count)) ∙ kept 0 count
  where
    mapped : (xs : List ℕ) → length (map pos xs) ≡ length xs
    mapped [] = refl
    mapped (x ∷ xs) = ap suc (mapped xs)

    kept : (from n : ℕ) → length (filter test (range_with_len from n)) ≡ passing test from n
    kept from zero = refl
    kept from (suc n) = by_test (test from) (ap (λ s. length (filter test (range_with_len s n))) next ∙ kept (suc from) n)
      where
        next : from + 1 ≡ suc from
        next = omega arith

        by_test : (b : Bool) → length (filter test (range_with_len (from + 1) n)) ≡ passing test (suc from) n → length (if b then from ∷ filter test (range_with_len (from + 1) n) else filter test (range_with_len (from + 1) n)) ≡ (if b then suc (passing test (suc from) n) else passing test (suc from) n)
        by_test true e = ap suc e
        by_test false e = e
