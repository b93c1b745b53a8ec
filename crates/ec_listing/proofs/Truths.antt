-- Truths by their places.
use Rattle.std.proofs.Common.{◌≡◌, ◌≢◌, ℕ, zero, suc, ◌+◌, ◌<◌, Bool, List, [], ◌∷◌, ◌++◌, length, set, get_or, refl, sym, ap, ◌∙◌, arith}
use Rattle.std.specs.Prelude.{Contains, AllPairs}
use Rattle.std.proofs.lemmas.List.{get_or_append_left, get_or-append-add, length-append}
use Rattle.ec_listing.specs.Slots.{truth_at}
use Rattle.ec_listing.proofs.TextLines.{cons_same}

pub truth_set : (t : List Bool) (k : ℕ) (b : Bool) → k < length t → truth_at (set t k b) k ≡ b
truth_set [] k b h = absurd (omega (arith, h))
truth_set (x ∷ t) zero b h = refl
truth_set (x ∷ t) (suc k) b h = truth_set t k b (omega (arith, h))

pub truth_set_other : (t : List Bool) (k j : ℕ) (b : Bool) → j ≢ k → truth_at (set t k b) j ≡ truth_at t j
truth_set_other [] k j b h = refl
truth_set_other (x ∷ t) zero zero b h = absurd (h refl)
truth_set_other (x ∷ t) zero (suc j) b h = refl
truth_set_other (x ∷ t) (suc k) zero b h = refl
truth_set_other (x ∷ t) (suc k) (suc j) b h = truth_set_other t k j b (λ e. h (ap suc e))

-- truths of one length that are the same at each place are the same
pub same_truths : (n : ℕ) (t u : List Bool) → length t ≡ n → length u ≡ n → ((k : ℕ) → k < n → truth_at t k ≡ truth_at u k) → t ≡ u
same_truths n [] [] h g each = refl
same_truths n [] (y ∷ u) h g each = absurd (omega (arith, h, g))
same_truths n (x ∷ t) [] h g each = absurd (omega (arith, h, g))
same_truths n (x ∷ t) (y ∷ u) h g each =
    cons_same (each 0 (omega (arith, h))) (same_truths (length t) t u refl (omega (arith, h, g)) (λ k l. each (suc k) (omega (arith, h, l))))

-- ---- members of two parts

-- what stands once doesn't stand in two parts
pub parts_apart : (a b : List ℕ) (k : ℕ) → AllPairs (λ i j. i ≢ j) (a ++ b) → Contains a k → Contains b k → ⊥
parts_apart a b k once h g =
    let first : get_or (a ++ b) h.0 k ≡ k = get_or_append_left a b k h.0 h.1 ∙ h.2 in
    let second : get_or (a ++ b) (length a + g.0) k ≡ k = get_or-append-add a b g.0 k ∙ g.2 in
    once h.0 (length a + g.0) k (omega (arith, h.1)) (omega (arith, g.1, length-append a b)) (first ∙ sym second)

pub pairs_right : (a b : List ℕ) → AllPairs (λ i j. i ≢ j) (a ++ b) → AllPairs (λ i j. i ≢ j) b
pairs_right [] b once = once
pairs_right (x ∷ a) b once = pairs_right a b (λ i j d l m. once (suc i) (suc j) d (omega (arith, l)) (omega (arith, m)))

pub only_one : (k j : ℕ) → Contains (k ∷ []) j → j ≡ k
only_one k j (zero, l, e) = sym e
only_one k j (suc i, l, e) = absurd (omega (arith, l))

pub contains_none : (j : ℕ) → Contains [] j → ⊥
contains_none j (i, l, e) = omega (arith, l)

pub contains_one : (k : ℕ) → Contains (k ∷ []) k
contains_one k = (0, omega arith, refl)
