-- The variables of atoms by the list of those that have one.
use Rattle.std.proofs.Common.{◌≡◌, ◌≢◌, ℕ, zero, suc, ◌+◌, ◌<◌, ◌≤◌, ◌==◌, Bool, true, false, List, [], ◌∷◌, length, get_or, refl, sym, ap, ◌∙◌, arith, Some, None, cond}
use Rattle.std.proofs.lemmas.Bool.Decides.{nat_tests}
use Rattle.std.proofs.lemmas.List.Sums.{position_or_len_is, fails_before_first}
use Rattle.std.proofs.lemmas.List.Kept.{AllPairs-from_increasing}
use Rattle.std.specs.Prelude.{nat_lt, Contains}
use Rattle.std.specs.List.{position_or_len}
use Rattle.std.specs.List.Sorted.{IsStrictlyIncreasing}
use Rattle.std.specs.Option.{option_map_or}
use Rattle.ec_naming.specs.Variables.{variable_of}

-- the variable by the place of the first entry that is the atom
abbrev pub variable_at : Bool → ℕ → ℕ
variable_at b i = option_map_or (λ k. k + 1) (cond b (Some i) None) 0

pub variable_of-le : (vs : List ℕ) (a : ℕ) → variable_of vs a ≤ length vs
variable_of-le vs a = cases (nat_lt (position_or_len (λ b. b == a) vs) (length vs)) refl
  where
    cases : (t : Bool) → nat_lt (position_or_len (λ b. b == a) vs) (length vs) ≡ t → variable_at t (position_or_len (λ b. b == a) vs) ≤ length vs
    cases true e = let lt : position_or_len (λ b. b == a) vs < length vs = grind (arith, nat_tests) in omega (arith, lt)
    cases false e = omega arith

-- an atom's variable is below the first name
pub variable_of-low : (vs : List ℕ) (n : ℕ) → n ≡ length vs + 1 → (a : ℕ) → variable_of vs a < n
variable_of-low vs n e a = omega (arith, e, variable_of-le vs a)

found : (vs : List ℕ) (a i : ℕ) → position_or_len (λ b. b == a) vs ≡ i → i < length vs → variable_of vs a ≡ i + 1
found vs a i e h =
    let t : nat_lt i (length vs) ≡ true = grind (arith, nat_tests) in
    ap (λ (k : ℕ). variable_at (nat_lt k (length vs)) k) e ∙ ap (λ (b : Bool). variable_at b i) t

pub variable_of-contained : (vs : List ℕ) (a : ℕ) → Contains vs a → 1 ≤ variable_of vs a
variable_of-contained vs a h = cases (nat_lt (position_or_len (λ b. b == a) vs) (length vs)) refl
  where
    cases : (t : Bool) → nat_lt (position_or_len (λ b. b == a) vs) (length vs) ≡ t → 1 ≤ variable_at t (position_or_len (λ b. b == a) vs)
    cases true e = omega arith
    cases false e =
        let far : h.0 < position_or_len (λ b. b == a) vs = let le : length vs ≤ position_or_len (λ b. b == a) vs = grind (arith, nat_tests) in omega (arith, le, h.1) in
        let other : (get_or vs h.0 a == a) ≡ false = fails_before_first (λ b. b == a) vs h.0 a far in
        let there : (get_or vs h.0 a == a) ≡ true = ap (λ b. b == a) h.2 ∙ self a in
        cc
      where
        self : (m : ℕ) → (m == m) ≡ true
        self m = grind (arith, nat_tests)

-- in a list that rises the place of an atom gives its variable
pub variable_of-found : (vs : List ℕ) (a k d : ℕ) → IsStrictlyIncreasing vs → k < length vs → get_or vs k d ≡ a → variable_of vs a ≡ k + 1
variable_of-found vs a k d rises h e =
    found vs a k (position_or_len_is (λ b. b == a) vs k d (omega (arith, h))
    (λ j lt. let below : get_or vs j d < get_or vs k d = AllPairs-from_increasing vs rises j k d lt h in apart (get_or vs j d) (get_or vs k d) below e)
    (λ lt. same (get_or vs k d) e)) h
  where
    apart : (m n : ℕ) → m < n → n ≡ a → (m == a) ≡ false
    apart m n lt f = grind (arith, nat_tests)

    same : (m : ℕ) → m ≡ a → (m == a) ≡ true
    same m f = grind (arith, nat_tests)

pub variable_of-none : (vs : List ℕ) (a : ℕ) → ((k : ℕ) → k < length vs → get_or vs k 0 ≢ a) → variable_of vs a ≡ 0
variable_of-none vs a h =
    let e : position_or_len (λ b. b == a) vs ≡ length vs = position_or_len_is (λ b. b == a) vs (length vs) 0 (omega arith) (λ k lt. other (get_or vs k 0) (h k lt)) (λ lt. absurd (omega (arith, lt))) in
    let t : nat_lt (length vs) (length vs) ≡ false = grind (arith, nat_tests) in
    ap (λ (k : ℕ). variable_at (nat_lt k (length vs)) k) e ∙ ap (λ (b : Bool). variable_at b (length vs)) t
  where
    other : (m : ℕ) → m ≢ a → (m == a) ≡ false
    other m f = grind (arith, nat_tests)

-- numbers that rise do not fall
pub rising_le : (vs : List ℕ) → IsStrictlyIncreasing vs → (i j : ℕ) → i ≤ j → j < length vs → get_or vs i 0 ≤ get_or vs j 0
rising_le vs rises i j le lt = cases (i == j) refl
  where
    cases : (b : Bool) → (i == j) ≡ b → get_or vs i 0 ≤ get_or vs j 0
    cases true e = let same : i ≡ j = grind (arith, nat_tests) in omega (arith, ap (λ (k : ℕ). get_or vs k 0) same)
    cases false e = let less : i < j = grind (arith, nat_tests) in omega (arith, AllPairs-from_increasing vs rises i j 0 less lt)

-- an atom between neighbours has no variable
pub variable_of-missed : (vs : List ℕ) (a i : ℕ) → ((k : ℕ) → k < i → get_or vs k 0 < a) → ((k : ℕ) → i ≤ k → k < length vs → a < get_or vs k 0) → variable_of vs a ≡ 0
variable_of-missed vs a i before behind = variable_of-none vs a (λ k lt. apart k lt (nat_lt k i) refl)
  where
    apart : (k : ℕ) → k < length vs → (b : Bool) → nat_lt k i ≡ b → get_or vs k 0 ≢ a
    apart k lt true e = let less : k < i = grind (arith, nat_tests) in let h = before k less in λ f. absurd (omega (arith, h, f))
    apart k lt false e = let le : i ≤ k = grind (arith, nat_tests) in let h = behind k le lt in λ f. absurd (omega (arith, h, f))

-- ---- the visible atoms

other_default : (vs : List ℕ) (i c d : ℕ) → i < length vs → get_or vs i c ≡ get_or vs i d
other_default [] i c d h = absurd (omega (arith, h))
other_default (v ∷ vs) zero c d h = refl
other_default (v ∷ vs) (suc i) c d h = other_default vs i c d (omega (arith, h))

-- numbers that rise are at least their places
place_below : (vs : List ℕ) → IsStrictlyIncreasing vs → (k : ℕ) → k < length vs → k ≤ get_or vs k 0
place_below vs rises zero h = omega arith
place_below vs rises (suc k) h =
    let before = place_below vs rises k (omega (arith, h)) in
    let step = AllPairs-from_increasing vs rises k (suc k) 0 (omega arith) h in
    omega (arith, before, step)

-- where all numbers below one are among them, each of these is at its own place
own_place : (vs : List ℕ) (visible : ℕ) → IsStrictlyIncreasing vs → ((a : ℕ) → a < visible → Contains vs a) → (n k : ℕ) → k < n → k < visible → (k < length vs) × (get_or vs k 0 ≡ k)
own_place vs visible rises all zero k h v = absurd (omega (arith, h))
own_place vs visible rises all (suc n) k h v = cases (λ i lt below. own_place vs visible rises all n i lt below) (all k v) ((all k v).0 == k) refl
  where
    cases : ((i : ℕ) → i < n → i < visible → (i < length vs) × (get_or vs i 0 ≡ i)) → (there : Contains vs k) (b : Bool) → (there.0 == k) ≡ b → (k < length vs) × (get_or vs k 0 ≡ k)
    cases earlier there true e =
        let same : there.0 ≡ k = grind (arith, nat_tests) in
        (omega (arith, there.1, same), sym (ap (λ (i : ℕ). get_or vs i 0) same) ∙ other_default vs there.0 0 k there.1 ∙ there.2)
    cases earlier there false e =
        let low = place_below vs rises there.0 there.1 in
        let value : get_or vs there.0 0 ≡ k = other_default vs there.0 0 k there.1 ∙ there.2 in
        let apart : there.0 ≢ k = λ f. absurd (let g : (there.0 == k) ≡ true = grind (arith, nat_tests) in cc) in
        let less : there.0 < k = omega (arith, low, value, apart) in
        let own = earlier there.0 (omega (arith, less, h)) (omega (arith, less, v)) in
        absurd (omega (arith, own.1, value, less))

-- the visible atoms have the variables from 1 on, in order
pub variable_of-visible : (vs : List ℕ) (visible : ℕ) → IsStrictlyIncreasing vs → ((a : ℕ) → a < visible → Contains vs a) → (a : ℕ) → a < visible → variable_of vs a ≡ a + 1
variable_of-visible vs visible rises all a h =
    let own = own_place vs visible rises all (a + 1) a (omega arith) h in
    variable_of-found vs a a 0 rises own.0 own.1
