-- Truths of one length, no two alike, rise once they are sorted.
use Rattle.std.proofs.Common.{◌≡◌, ◌≢◌, Ordering, Less, Equal, Greater, ℕ, zero, suc, ◌+◌, ◌<◌, Bool, true, false, List, [], ◌∷◌, length, get_or, All, AllPairs, IsPermutation, refl, sym, ap, ◌∙◌, subst, arith}
use Rattle.std.proofs.Math.Numerals.{add-one}
use Rattle.std.proofs.lemmas.Map.Keys.{IsDistinct-IsPermutation}
use Rattle.std.proofs.lemmas.Map.Made.{AllPairs-from_IsDistinct, IsDistinct-from_AllPairs}
use Rattle.std.specs.Bool.{beq}
use Rattle.std.specs.Cmp.{bool_cmp_total, bool_eq_equiv}
use Rattle.std.specs.Cmp.Lexicographic.{lists_equiv, lists_total, pointwise, slice_cmp}
use Rattle.std.specs.List.{AllByRecursion}
use Rattle.std.specs.List.Sorted.{IsSorted}
use Rattle.std.specs.Ordering.{bool_cmp, is_lt, ordering_reverse}
use Rattle.ec_logic.specs.Listing.{Precedes, IsRising}
use Rattle.ec_row.proofs.OrderLaws.{equal_same, eq_decides, less_by}

-- ---- one truth before another

behind : (x : Bool) (a b : List Bool) → Precedes a b → Precedes (x ∷ a) (x ∷ b)
behind false a b p = p
behind true a b p = p

pub less_precedes : (a b : List Bool) → length a ≡ length b → slice_cmp bool_cmp a b ≡ Less → Precedes a b
less_precedes = less_by Precedes (λ a b. tt) behind

pub precedes_through : (a b c : List Bool) → Precedes a b → Precedes b c → Precedes a c
precedes_through [] b c p q = absurd p
precedes_through (false ∷ a) [] c p q = absurd p
precedes_through (true ∷ a) [] c p q = absurd p
precedes_through (false ∷ a) (false ∷ b) [] p q = absurd q
precedes_through (false ∷ a) (true ∷ b) [] p q = absurd q
precedes_through (true ∷ a) (false ∷ b) [] p q = absurd p
precedes_through (true ∷ a) (true ∷ b) [] p q = absurd q
precedes_through (false ∷ a) (false ∷ b) (false ∷ c) p q = precedes_through a b c p q
precedes_through (false ∷ a) (false ∷ b) (true ∷ c) p q = tt
precedes_through (false ∷ a) (true ∷ b) (false ∷ c) p q = absurd q
precedes_through (false ∷ a) (true ∷ b) (true ∷ c) p q = tt
precedes_through (true ∷ a) (false ∷ b) (x ∷ c) p q = absurd p
precedes_through (true ∷ a) (true ∷ b) (false ∷ c) p q = absurd q
precedes_through (true ∷ a) (true ∷ b) (true ∷ c) p q = precedes_through a b c p q

precedes_itself : (a : List Bool) → Precedes a a → ⊥
precedes_itself [] p = p
precedes_itself (false ∷ a) p = precedes_itself a p
precedes_itself (true ∷ a) p = precedes_itself a p

-- ---- each before the next, and so before all that follow

abbrev Adjacent : List (List Bool) → Type 0
Adjacent [] = Unit {0}
Adjacent (t ∷ []) = Unit {0}
Adjacent (t ∷ u ∷ ts) = Precedes t u × Adjacent (u ∷ ts)

before_all : (t u : List Bool) (ts : List (List Bool)) → Precedes t u → AllByRecursion (Precedes u) ts → AllByRecursion (Precedes t) ts
before_all t u [] p q = tt
before_all t u (v ∷ ts) p q = (precedes_through t u v p q.0, before_all t u ts p q.1)

rising_adjacent : (ts : List (List Bool)) → Adjacent ts → IsRising ts
rising_adjacent [] p = tt
rising_adjacent (t ∷ []) p = (tt, tt)
rising_adjacent (t ∷ u ∷ ts) p =
    let rest = rising_adjacent (u ∷ ts) p.1 in
    ((p.0, before_all t u ts p.0 rest.0), rest)

-- ---- what a sort gives

two_adjacent : (t u : List Bool) → length t ≡ length u → t ≢ u → is_lt (slice_cmp bool_cmp u t) ≡ false → Precedes t u
two_adjacent t u size apart sorted = by_order (slice_cmp bool_cmp t u) refl
  where
    by_order : (o : Ordering) → slice_cmp bool_cmp t u ≡ o → Precedes t u
    by_order Less e = less_precedes t u size e
    by_order Equal e = absurd (apart (equal_same t u e))
    by_order Greater e =
        let turned : slice_cmp bool_cmp u t ≡ Less = (lists_total bool_cmp_total).antisymm u t ∙ ap ordering_reverse e in
        absurd (let l = ap is_lt turned in cc)

adjacent : (n : ℕ) (ts : List (List Bool)) → All (λ t. length t ≡ n) ts → AllPairs (λ (t u : List Bool). t ≢ u) ts → ((k : ℕ) (d : List Bool) → suc k < length ts → is_lt (slice_cmp bool_cmp (get_or ts (suc k) d) (get_or ts k d)) ≡ false) → Adjacent ts
adjacent n [] sizes apart sorted = tt
adjacent n (t ∷ []) sizes apart sorted = tt
adjacent n (t ∷ u ∷ ts) sizes apart sorted = (
  two_adjacent t u (sizes 0 [] (omega arith) ∙ sym (sizes 1 [] (omega arith))) (apart 0 1 [] (omega arith) (omega arith)) (sorted 0 [] (omega arith)),
  adjacent n (u ∷ ts) (λ k d lt. sizes (suc k) d (omega (arith, lt))) (λ i j d ij lt. apart (suc i) (suc j) d (omega (arith, ij)) (omega (arith, lt))) (λ k d lt. sorted (suc k) d (omega (arith, lt))),
)

apart_permutation : (ts us : List (List Bool)) → IsPermutation ts us → AllPairs (λ (t u : List Bool). t ≢ u) ts → AllPairs (λ (t u : List Bool). t ≢ u) us
apart_permutation ts us p apart =
    AllPairs-from_IsDistinct eq_decides us (IsDistinct-IsPermutation (pointwise beq) ((lists_equiv bool_eq_equiv).symm) ts us p (IsDistinct-from_AllPairs eq_decides ts apart))

-- Truths of one length, no two alike, rise where each is no less than the one before it.
pub rising_sorted : (n : ℕ) (ts us : List (List Bool)) → IsPermutation ts us → IsSorted (slice_cmp bool_cmp) us → All (λ t. length t ≡ n) us → AllPairs (λ (t u : List Bool). t ≢ u) ts → IsRising us
rising_sorted n ts us p sorted sizes apart =
    rising_adjacent us (adjacent n us sizes (apart_permutation ts us p apart) (λ k d lt. (
    let same = add-one k in
    let at : is_lt (slice_cmp bool_cmp (get_or us (k + 1) d) (get_or us k d)) ≡ false = sorted k d (omega arith) (omega (arith, lt)) in
    subst (λ j. is_lt (slice_cmp bool_cmp (get_or us j d) (get_or us k d)) ≡ false) same at)))

-- ---- rising truths are apart

apart_head : (t : List Bool) (ts : List (List Bool)) → AllByRecursion (Precedes t) ts → (j : ℕ) (d : List Bool) → j < length ts → t ≢ get_or ts j d
apart_head t [] p j d lt e = absurd (omega (arith, lt))
apart_head t (u ∷ ts) p zero d lt e = precedes_itself u (subst (λ x. Precedes x u) e p.0)
apart_head t (u ∷ ts) p (suc j) d lt e = apart_head t ts p.1 j d (omega (arith, lt)) e

pub rising_apart : (ts : List (List Bool)) → IsRising ts → AllPairs (λ (t u : List Bool). t ≢ u) ts
rising_apart [] r i j d ij lt = absurd (omega (arith, lt))
rising_apart (t ∷ ts) r i zero d ij lt = absurd (omega (arith, ij))
rising_apart (t ∷ ts) r zero (suc j) d ij lt = apart_head t ts r.0 j d (omega (arith, lt))
rising_apart (t ∷ ts) r (suc i) (suc j) d ij lt = rising_apart ts r.1 i j d (omega (arith, ij)) (omega (arith, lt))
