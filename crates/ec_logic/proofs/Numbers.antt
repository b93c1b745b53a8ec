-- Different atoms have different numbers.
use Rattle.std.proofs.Common.{◌≡◌, ℕ, zero, suc, ◌+◌, ◌-◌, ◌<◌, ◌≤◌, ◌==◌, ◌⊎◌, inl, inr, Bool, true, false, ◌||◌, if◌then◌else◌, List, [], ◌∷◌, ◌++◌, length, refl, sym, ap, arith, ◌∙◌, ℤ, Option, Some, None, option_map}
use Rattle.std.proofs.lemmas.Bool.Decides.{nat_tests}
use Rattle.std.specs.List.{list_any, range_with_len}
use Rattle.ec_logic.specs.Universe.{Universe, row_of, tuple_rank}
use Rattle.ec_logic.specs.Atom.{tuples_of, atoms_before, predicates_in_order, declared, number_of}
use Rattle.ec_logic.specs.Signature.{built_in}
use Rattle.ec_logic.proofs.Tests.{or_cases, or_left, or_right, test_cases, same_number, same_itself}
use Rattle.ec_logic.proofs.Tuples.{tuple_rank_below, tuple_rank_same}

-- whether a predicate is one of these
abbrev pub is_one_of : List ℕ → ℕ → Bool
is_one_of qs p = list_any (λ q. q == p) qs

-- the atoms of two predicates stand apart
apart : (universe : Universe) (qs : List ℕ) (p q : ℕ) → (p ≡ q → ⊥) → is_one_of qs p ≡ true → is_one_of qs q ≡ true
    → (atoms_before universe qs p + tuples_of universe p ≤ atoms_before universe qs q) ⊎ (atoms_before universe qs q + tuples_of universe q ≤ atoms_before universe qs p)
apart universe [] p q differ h k = cc
apart universe (r ∷ qs) p q differ h k = by_tests (r == p) (r == q) refl refl h k (apart universe qs p q differ)
  where
    later : (atoms_before universe qs p + tuples_of universe p ≤ atoms_before universe qs q) ⊎ (atoms_before universe qs q + tuples_of universe q ≤ atoms_before universe qs p)
        → ((tuples_of universe r + atoms_before universe qs p) + tuples_of universe p ≤ tuples_of universe r + atoms_before universe qs q) ⊎ ((tuples_of universe r + atoms_before universe qs q) + tuples_of universe q ≤ tuples_of universe r + atoms_before universe qs p)
    later (inl x) = inl (omega (arith, x))
    later (inr x) = inr (omega (arith, x))

    by_tests : (a b : Bool) → (r == p) ≡ a → (r == q) ≡ b → (a || is_one_of qs p) ≡ true → (b || is_one_of qs q) ≡ true
        → (is_one_of qs p ≡ true → is_one_of qs q ≡ true → (atoms_before universe qs p + tuples_of universe p ≤ atoms_before universe qs q) ⊎ (atoms_before universe qs q + tuples_of universe q ≤ atoms_before universe qs p))
        → ((if a then 0 else tuples_of universe r + atoms_before universe qs p) + tuples_of universe p ≤ (if b then 0 else tuples_of universe r + atoms_before universe qs q))
        ⊎ ((if b then 0 else tuples_of universe r + atoms_before universe qs q) + tuples_of universe q ≤ (if a then 0 else tuples_of universe r + atoms_before universe qs p))
    by_tests true true s t h k rest = absurd (differ (sym (same_number r p s) ∙ same_number r q t))
    by_tests true false s t h k rest = let e = ap (tuples_of universe) (same_number r p s) in inl (omega (arith, e))
    by_tests false true s t h k rest = let e = ap (tuples_of universe) (same_number r q t) in inr (omega (arith, e))
    by_tests false false s t h k rest = later (rest h k)

one_of_range : (from n p : ℕ) → from ≤ p → p < from + n → is_one_of (range_with_len from n) p ≡ true
one_of_range from zero p l h = absurd (omega arith)
one_of_range from (suc n) p l h = test_cases (is_one_of (range_with_len from (suc n)) p ≡ true) (from == p)
    (λ e. or_left (from == p) (is_one_of (range_with_len (from + 1) n) p) e)
    (λ e. or_right (from == p) (is_one_of (range_with_len (from + 1) n) p) (one_of_range (from + 1) n p (grind (arith, nat_tests)) (omega arith)))

one_of_append : (qs rs : List ℕ) (p : ℕ) → (is_one_of qs p ≡ true) ⊎ (is_one_of rs p ≡ true) → is_one_of (qs ++ rs) p ≡ true
one_of_append [] rs p (inl h) = cc
one_of_append [] rs p (inr h) = h
one_of_append (q ∷ qs) rs p (inl h) = or_cases (is_one_of (q ∷ qs ++ rs) p ≡ true) (q == p) (is_one_of qs p)
    (λ e. or_left (q == p) (is_one_of (qs ++ rs) p) e) (λ e. or_right (q == p) (is_one_of (qs ++ rs) p) (one_of_append qs rs p (inl e))) h
one_of_append (q ∷ qs) rs p (inr h) = or_right (q == p) (is_one_of (qs ++ rs) p) (one_of_append qs rs p (inr h))

-- each predicate has its atoms in the order
pub in_order : (universe : Universe) (p : ℕ) → p < length universe.predicates → is_one_of (predicates_in_order universe) p ≡ true
in_order universe zero h = refl
in_order universe (suc zero) h = refl
in_order universe (suc (suc zero)) h = refl
in_order universe (suc (suc (suc zero))) h = one_of_append (0 ∷ 1 ∷ 2 ∷ declared universe) (3 ∷ 4 ∷ 5 ∷ []) 3 (inr refl)
in_order universe (suc (suc (suc (suc zero)))) h = one_of_append (0 ∷ 1 ∷ 2 ∷ declared universe) (3 ∷ 4 ∷ 5 ∷ []) 4 (inr refl)
in_order universe (suc (suc (suc (suc (suc zero))))) h = one_of_append (0 ∷ 1 ∷ 2 ∷ declared universe) (3 ∷ 4 ∷ 5 ∷ []) 5 (inr refl)
in_order universe (suc (suc (suc (suc (suc (suc p)))))) h =
    one_of_append (0 ∷ 1 ∷ 2 ∷ declared universe) (3 ∷ 4 ∷ 5 ∷ []) (suc (suc (suc (suc (suc (suc p))))))
    (inl (one_of_append (0 ∷ 1 ∷ 2 ∷ []) (declared universe) (suc (suc (suc (suc (suc (suc p))))))
    (inr (one_of_range built_in (length universe.predicates - built_in) (suc (suc (suc (suc (suc (suc p)))))) (omega arith) (omega arith)))))

-- two atoms of one number are one
pub number_same : (universe : Universe) (p q : ℕ) (us vs : List ℤ) (k : ℕ) → p < length universe.predicates → q < length universe.predicates → number_of universe p us ≡ Some k → number_of universe q vs ≡ Some k → (p ≡ q) × (us ≡ vs)
number_same universe p q us vs k known-p known-q h i = by_ranks (tuple_rank universe (row_of universe.predicates p) us) (tuple_rank universe (row_of universe.predicates q) vs) refl refl h i
  where
    by_ranks : (a b : Option ℕ) → tuple_rank universe (row_of universe.predicates p) us ≡ a → tuple_rank universe (row_of universe.predicates q) vs ≡ b
        → option_map (λ j. atoms_before universe (predicates_in_order universe) p + j) a ≡ Some k → option_map (λ j. atoms_before universe (predicates_in_order universe) q + j) b ≡ Some k → (p ≡ q) × (us ≡ vs)
    by_ranks None b d e h i = cc
    by_ranks (Some x) None d e h i = cc
    by_ranks (Some x) (Some y) d e h i =
        let low = tuple_rank_below universe (row_of universe.predicates p) us x d in
        let high = tuple_rank_below universe (row_of universe.predicates q) vs y e in
        let at-p : atoms_before universe (predicates_in_order universe) p + x ≡ k = cc in
        let at-q : atoms_before universe (predicates_in_order universe) q + y ≡ k = cc in
        test_cases ((p ≡ q) × (us ≡ vs)) (p == q)
        (λ s.
        let one = same_number p q s in
        let there : atoms_before universe (predicates_in_order universe) p + y ≡ k = rw one at-q in
        let same : x ≡ y = omega (arith, at-p, there) in
        let rank-q : tuple_rank universe (row_of universe.predicates p) vs ≡ Some x = rw (one, same) e in
        (one, tuple_rank_same universe (row_of universe.predicates p) us vs x d rank-q))
        (λ s. absurd (elim (apart universe (predicates_in_order universe) p q (λ o. let t : (p == q) ≡ true = rw o (same_itself q) in cc) (in_order universe p known-p) (in_order universe q known-q)) as (λ z. ⊥) [
          | inl less ↦ omega (arith, less, low, high, at-p, at-q)
          | inr less ↦ omega (arith, less, low, high, at-p, at-q)
        ]))
