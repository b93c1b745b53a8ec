-- What is said of each listed atom is said of each tuple of the domains of a predicate's arguments.
use Rattle.std.proofs.Common.{◌≡◌, ℕ, zero, suc, ◌+◌, ◌<◌, ◌==◌, true, List, [], ◌∷◌, ◌++◌, length, map, ℤ, All, Some, subst, arith}
use Rattle.std.specs.List.{flat_map, range_with_len}
use Rattle.std.proofs.lemmas.List.Elements.{All-nil, All-cons, All-head, All-tail, All-append}
use Rattle.ec_logic.specs.Universe.{Universe, row_of, tuples, tuple_rank}
use Rattle.ec_logic.specs.Atom.{GroundAtom, atom_at, atoms_of, all_atoms, predicates_in_order}
use Rattle.ec_logic.proofs.Tests.{test_cases, same_number}
use Rattle.ec_logic.proofs.Numbers.{is_one_of, in_order}
use Rattle.ec_logic.proofs.Numbering.{tuple_at-tuple_rank}
use Rattle.ec_logic.proofs.Tuples.{tuple_rank_below}

-- ---- a fact of each item of lists that are joined

module _ {A : Type 0} (P : A → Type 0) where
  pub all_left : (xs ys : List A) → All P (xs ++ ys) → All P xs
  all_left [] ys h = All-nil P
  all_left (x ∷ xs) ys h = All-cons P x xs (All-head P x (xs ++ ys) h) (all_left xs ys (All-tail P x (xs ++ ys) h))

  pub all_right : (xs ys : List A) → All P (xs ++ ys) → All P ys
  all_right [] ys h = h
  all_right (x ∷ xs) ys h = all_right xs ys (All-tail P x (xs ++ ys) h)

  module _ {B : Type 0} (f : B → List A) where
    pub all_joined : ((x : B) → All P (f x)) → (xs : List B) → All P (flat_map f xs)
    all_joined h [] = All-nil P
    all_joined h (x ∷ xs) = All-append P (f x) (flat_map f xs) (h x) (all_joined h xs)

    pub all_parted : (xs : List B) → All P (flat_map f xs) → All (λ x. All P (f x)) xs
    all_parted [] h = All-nil (λ x. All P (f x))
    all_parted (x ∷ xs) h = All-cons (λ y. All P (f y)) x xs (all_left (f x) (flat_map f xs) h) (all_parted xs (all_right (f x) (flat_map f xs) h))

-- ---- the atoms

module _ (universe : Universe) (P : GroundAtom → Type 0) where
  of_predicate : (qs : List ℕ) (p : ℕ) → is_one_of qs p ≡ true → All P (flat_map (atoms_of universe) qs) → All P (atoms_of universe p)
  of_predicate [] p e h = cc
  of_predicate (q ∷ qs) p e h = test_cases (All P (atoms_of universe p)) (q == p)
      (λ t. let A : ℕ → Type 0 = λ r. All P (atoms_of universe r) in subst A (same_number q p t) (all_left P (atoms_of universe q) (flat_map (atoms_of universe) qs) h))
      (λ t. of_predicate qs p (rw t at e) (all_right P (atoms_of universe q) (flat_map (atoms_of universe) qs) h))

  at_place : (made : ℕ → GroundAtom) (from n k : ℕ) → k < n → All P (map made (range_with_len from n)) → P (made (from + k))
  at_place made from zero k l h = absurd (omega (arith, l))
  at_place made from (suc n) zero l h = let e : from + 0 ≡ from = omega arith in rw e (All-head P (made from) (map made (range_with_len (from + 1) n)) h)
  at_place made from (suc n) (suc k) l h =
      let e : from + suc k ≡ (from + 1) + k = omega arith in
      rw e (at_place made (from + 1) n k (omega (arith, l)) (All-tail P (made from) (map made (range_with_len (from + 1) n)) h))

  pub each_atom : All P (all_atoms universe) → (p : ℕ) (vs : List ℤ) (k : ℕ) → p < length universe.predicates → tuple_rank universe (row_of universe.predicates p) vs ≡ Some k → P (record { predicate = p; args = vs })
  each_atom h p vs k known rank =
      let here = of_predicate (predicates_in_order universe) p (in_order universe p known) h in
      let below = tuple_rank_below universe (row_of universe.predicates p) vs k rank in
      let found : P (atom_at universe p (0 + k)) = at_place (atom_at universe p) 0 (tuples universe (row_of universe.predicates p)) k below here in
      let start : 0 + k ≡ k = omega arith in
      let at : P (atom_at universe p k) = rw start at found in
      let A : List ℤ → Type 0 = λ ws. P (record { predicate = p; args = ws }) in
      subst A (tuple_at-tuple_rank universe (row_of universe.predicates p) vs k rank) at
