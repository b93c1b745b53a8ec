-- All truths rise, each has so many values, and there is each.
use Rattle.std.proofs.Common.{◌≡◌, ℕ, zero, suc, ◌^◌, Bool, true, false, List, [], ◌∷◌, ◌++◌, map, length, refl, ap, arith, ◌∙◌}
use Rattle.std.specs.List.{AllByRecursion, Contains}
use Rattle.std.proofs.lemmas.List.{length-append, length-map}
use Rattle.std.proofs.lemmas.List.Elements.{Contains-append_left, Contains-append_right}
use Rattle.ec_logic.specs.Listing.{Precedes, IsRising}
use Rattle.ec_models.specs.Tried.{all_truths}

all_append : (P : List Bool → Type 0) (xs ys : List (List Bool)) → AllByRecursion P xs → AllByRecursion P ys → AllByRecursion P (xs ++ ys)
all_append P [] ys a b = b
all_append P (x ∷ xs) ys a b = (a.0, all_append P xs ys a.1 b)

rising_append : (xs ys : List (List Bool)) → IsRising xs → IsRising ys → AllByRecursion (λ x. AllByRecursion (Precedes x) ys) xs → IsRising (xs ++ ys)
rising_append [] ys a b c = b
rising_append (x ∷ xs) ys a b c = (all_append (Precedes x) xs ys a.0 c.0, rising_append xs ys a.1 b c.1)

with_bit : (b : Bool) (t : List Bool) (ts : List (List Bool)) → AllByRecursion (Precedes t) ts → AllByRecursion (Precedes (b ∷ t)) (map (λ u. b ∷ u) ts)
with_bit b t [] h = tt
with_bit true t (u ∷ ts) h = (h.0, with_bit true t ts h.1)
with_bit false t (u ∷ ts) h = (h.0, with_bit false t ts h.1)

rising_bit : (b : Bool) (ts : List (List Bool)) → IsRising ts → IsRising (map (λ u. b ∷ u) ts)
rising_bit b [] h = tt
rising_bit b (t ∷ ts) h = (with_bit b t ts h.0, rising_bit b ts h.1)

after_one : (t : List Bool) (us : List (List Bool)) → AllByRecursion (Precedes (false ∷ t)) (map (λ u. true ∷ u) us)
after_one t [] = tt
after_one t (u ∷ us) = (tt, after_one t us)

after_all : (ts us : List (List Bool)) → AllByRecursion (λ x. AllByRecursion (Precedes x) (map (λ u. true ∷ u) us)) (map (λ t. false ∷ t) ts)
after_all [] us = tt
after_all (t ∷ ts) us = (after_one t us, after_all ts us)

pub all_rise : (n : ℕ) → IsRising (all_truths n)
unfolding all_truths
all_rise zero = (tt, tt)
all_rise (suc n) = rising_append _ _ (rising_bit false (all_truths n) (all_rise n)) (rising_bit true (all_truths n) (all_rise n)) (after_all (all_truths n) (all_truths n))

contains_bit : (b : Bool) (ts : List (List Bool)) (t : List Bool) → Contains ts t → Contains (map (λ u. b ∷ u) ts) (b ∷ t)
contains_bit b [] t h = absurd (omega (arith, h.1))
contains_bit b (u ∷ ts) t (zero, lt, e) = (0, omega arith, ap (λ (x : List Bool). b ∷ x) e)
contains_bit b (u ∷ ts) t (suc k, lt, e) = let w = contains_bit b ts t (k, omega (arith, lt), e) in let below = w.1 in (suc w.0, omega arith, w.2)

pub each_there : (n : ℕ) (t : List Bool) → length t ≡ n → Contains (all_truths n) t
unfolding all_truths
each_there zero [] h = (0, omega arith, refl)
each_there zero (b ∷ t) h = absurd (omega (arith, h))
each_there (suc n) [] h = absurd (omega (arith, h))
each_there (suc n) (false ∷ t) h = Contains-append_left _ _ (false ∷ t) (contains_bit false (all_truths n) t (each_there n t (omega (arith, h))))
each_there (suc n) (true ∷ t) h = Contains-append_right _ _ (true ∷ t) (contains_bit true (all_truths n) t (each_there n t (omega (arith, h))))

pub length-all : (n : ℕ) → length (all_truths n) ≡ 2 ^ n
unfolding all_truths
length-all zero = refl
length-all (suc n) =
    let half = length-all n in
    let first = length-map (all_truths n) (λ t. false ∷ t) in
    let second = length-map (all_truths n) (λ t. true ∷ t) in
    length-append (map (λ t. false ∷ t) (all_truths n)) (map (λ t. true ∷ t) (all_truths n)) ∙ omega (arith, half, first, second)
