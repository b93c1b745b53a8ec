-- A predicate's extent, taken atom by atom from another structure.
use Rattle.std.proofs.Common.{◌≡◌, ◌∙◌, ◌<◌, ◌≤◌, ◌+◌, ◌-◌, ◌==◌, ◌||◌, ◌≢◌, ⊎_elim, ℕ, zero, suc, nat_lt, Bool, true, false, List, [], ◌∷◌, length, set, take, get_or, Option, None, Some, slice_get, unwrap_or, if◌then◌else◌, ℤ, refl, sym, ap, subst, arith}
use Rattle.std.proofs.lemmas.Bool.Decides.{nat_tests, eqb_tells}
use Rattle.std.specs.List.{list_any}
use Rattle.std.proofs.Math.Bool.{or-false}
use Rattle.std.proofs.lemmas.Bool.{eq-eqb, ne_eqb}
use Rattle.std.proofs.lemmas.List.{take_more}
use Rattle.std.proofs.lemmas.List.Folds.{list_any-append}
use Rattle.ec_logic.specs.Universe.{Universe, row_of, tuples, tuple_at, tuple_rank}
use Rattle.ec_logic.specs.Atom.{all_atoms, atoms_before, number_of, predicates_in_order, structure_of}
use Rattle.ec_logic.proofs.MarkedBits.{numbered, structure_at, structure_none}
use Rattle.ec_logic.proofs.Numbering.{tuple_rank-tuple_at}
use Rattle.ec_logic.proofs.Numbers.{number_same}
use Rattle.ec_logic.proofs.Tests.{test_cases}
use Rattle.ec_logic.proofs.Tuples.{tuple_rank_below}
use Rattle.ec_minimal.specs.Agrees.{TakesExtent, TakesExtents, in_span}
use Rattle.ec_minimal.proofs.SupportLemmas.{is_structure}

set_here : (xs : List Bool) (i : ℕ) (v : Bool) → i < length xs → slice_get (set xs i v) i ≡ Some v
set_here [] i v l = absurd (omega (arith, l))
set_here (x ∷ xs) zero v l = refl
set_here (x ∷ xs) (suc i) v l = set_here xs i v (omega (arith, l))

set_there : (xs : List Bool) (i k : ℕ) (v : Bool) → (i ≡ k → ⊥) → slice_get (set xs i v) k ≡ slice_get xs k
set_there [] i k v d = refl
set_there (x ∷ xs) zero zero v d = absurd (d refl)
set_there (x ∷ xs) zero (suc k) v d = refl
set_there (x ∷ xs) (suc i) zero v d = refl
set_there (x ∷ xs) (suc i) (suc k) v d = set_there xs i k v (λ e. d (omega (arith, e)))

span_last : (first n : ℕ) → in_span first (n + 1) (first + n) ≡ true
span_last first n = grind (arith, nat_tests)

span_same : (first n k : ℕ) → (first + n ≡ k → ⊥) → in_span first (n + 1) k ≡ in_span first n k
span_same first n k d = grind (arith, nat_tests, d)

pub span_none : (first k : ℕ) → in_span first 0 k ≡ false
span_none first k = grind (arith, nat_tests)

-- one atom more
pub taken_more : (first n v : ℕ) (source old xs : List Bool) (b : Bool) → first + n < length xs → slice_get source (first + n) ≡ Some b → ((k : ℕ) → slice_get xs k ≡ (if in_span first n k then slice_get source k else slice_get old k)) → (k : ℕ) → slice_get (set xs (first + n) b) k ≡ (if in_span first (n + 1) k then slice_get source k else slice_get old k)
taken_more first n v source old xs b l s before k = ⊎_elim same other (eqb_tells (first + n) k)
  where
    same : ((first + n == k) ≡ true) × (first + n ≡ k) → slice_get (set xs (first + n) b) k ≡ (if in_span first (n + 1) k then slice_get source k else slice_get old k)
    same h =
        let P : ℕ → Type 0 = λ j. slice_get (set xs (first + n) b) j ≡ (if in_span first (n + 1) j then slice_get source j else slice_get old j) in
        subst P h.1 (rw (span_last first n) (set_here xs (first + n) b l ∙ sym s))

    other : ((first + n == k) ≡ false) × (first + n ≢ k) → slice_get (set xs (first + n) b) k ≡ (if in_span first (n + 1) k then slice_get source k else slice_get old k)
    other h = rw (span_same first n k h.1) (set_there xs (first + n) k b h.1 ∙ before k)

both_false : (b : Bool) → false ≡ (if b then false else false)
both_false true = refl
both_false false = refl

either_truth : (b c : Bool) (o x y : Option Bool) → b ≡ c → o ≡ (if b then x else y) → unwrap_or o false ≡ (if c then unwrap_or x false else unwrap_or y false)
either_truth true true o x y e h = ap (λ z. unwrap_or z false) h
either_truth true false o x y e h = cc
either_truth false true o x y e h = cc
either_truth false false o x y e h = ap (λ z. unwrap_or z false) h

module _ (universe : Universe) (p : ℕ) (known : p < length universe.predicates) (first : ℕ) (starts : first ≡ atoms_before universe (predicates_in_order universe) p) where
  -- an atom's number is among those of a predicate exactly where the atom is one of it
  span_is : (q : ℕ) (vs : List ℤ) (k : ℕ) → q < length universe.predicates → number_of universe q vs ≡ Some k → in_span first (tuples universe (row_of universe.predicates p)) k ≡ (q == p)
  span_is q vs k known-q h = ⊎_elim same other (eqb_tells q p)
    where
      inside : (j : ℕ) → tuple_rank universe (row_of universe.predicates q) vs ≡ Some j → q ≡ p → in_span first (tuples universe (row_of universe.predicates p)) k ≡ true
      inside j r e =
          let at = numbered universe q vs j r in
          let is : k ≡ atoms_before universe (predicates_in_order universe) q + j = cc in
          let low = tuple_rank_below universe (row_of universe.predicates q) vs j r in
          let starts-q = ap (λ n. atoms_before universe (predicates_in_order universe) n) e in
          let count-q = ap (λ n. tuples universe (row_of universe.predicates n)) e in
          grind (arith, nat_tests, is, low, starts, starts-q, count-q)

      by_rank : (o : Option ℕ) → tuple_rank universe (row_of universe.predicates q) vs ≡ o → q ≡ p → in_span first (tuples universe (row_of universe.predicates p)) k ≡ true
      by_rank None r e = let none : number_of universe q vs ≡ None = rw r refl in cc
      by_rank (Some j) r e = inside j r e

      same : ((q == p) ≡ true) × (q ≡ p) → in_span first (tuples universe (row_of universe.predicates p)) k ≡ (q == p)
      same e = by_rank (tuple_rank universe (row_of universe.predicates q) vs) refl e.1 ∙ sym e.0

      outside : in_span first (tuples universe (row_of universe.predicates p)) k ≡ true → q ≡ p
      outside t =
          let low : first ≤ k = grind (arith, nat_tests, t) in
          let high : k < first + tuples universe (row_of universe.predicates p) = grind (arith, nat_tests, t) in
          let r = tuple_rank-tuple_at universe (row_of universe.predicates p) (k - first) (omega (arith, low, high)) in
          let back : atoms_before universe (predicates_in_order universe) p + (k - first) ≡ k = omega (arith, starts, low) in
          let at : number_of universe p (tuple_at universe (row_of universe.predicates p) (k - first)) ≡ Some k = numbered universe p (tuple_at universe (row_of universe.predicates p) (k - first)) (k - first) r ∙ ap Some back in
          (number_same universe q p vs (tuple_at universe (row_of universe.predicates p) (k - first)) k known-q known h at).0

      other : ((q == p) ≡ false) × (q ≢ p) → in_span first (tuples universe (row_of universe.predicates p)) k ≡ (q == p)
      other e = test_cases (in_span first (tuples universe (row_of universe.predicates p)) k ≡ (q == p)) (in_span first (tuples universe (row_of universe.predicates p)) k) (λ t. absurd (e.1 (outside t))) (λ t. t ∙ sym e.0)

  -- the extent is taken once each of its atoms is
  pub taken_all : (source old new : List Bool) → 6 ≤ length universe.predicates → length source ≡ length (all_atoms universe) → length old ≡ length (all_atoms universe) → length new ≡ length (all_atoms universe)
      → ((k : ℕ) → slice_get new k ≡ (if in_span first (tuples universe (row_of universe.predicates p)) k then slice_get source k else slice_get old k)) → TakesExtent universe source old new p
  taken_all source old new six size-source size-old size-new spans = record { takes = λ q vs. by_predicate q vs }
    where
      none_true : (bits : List Bool) (q : ℕ) (vs : List ℤ) → length bits ≡ length (all_atoms universe) → (q < length universe.predicates → ⊥) → structure_of universe bits q vs ≡ false
      none_true bits q vs size out = test_cases (structure_of universe bits q vs ≡ false) (structure_of universe bits q vs) (λ t. absurd (out (is_structure universe bits six size q vs t).0)) (λ t. t)

      by_number : (q : ℕ) (vs : List ℤ) → q < length universe.predicates → (o : Option ℕ) → number_of universe q vs ≡ o → structure_of universe new q vs ≡ (if q == p then structure_of universe source q vs else structure_of universe old q vs)
      by_number q vs l None h = rw (structure_none universe new q vs h, structure_none universe source q vs h, structure_none universe old q vs h) (both_false (q == p))
      by_number q vs l (Some k) h =
          rw (structure_at universe new q vs k h, structure_at universe source q vs k h, structure_at universe old q vs k h)
          (either_truth (in_span first (tuples universe (row_of universe.predicates p)) k) (q == p) (slice_get new k) (slice_get source k) (slice_get old k) (span_is q vs k l h) (spans k))

      by_predicate : (q : ℕ) (vs : List ℤ) → structure_of universe new q vs ≡ (if q == p then structure_of universe source q vs else structure_of universe old q vs)
      by_predicate q vs =
          test_cases (structure_of universe new q vs ≡ (if q == p then structure_of universe source q vs else structure_of universe old q vs)) (nat_lt q (length universe.predicates))
          (λ t. by_number q vs (grind (arith, nat_tests, t)) (number_of universe q vs) refl)
          (λ t.
          let out : q < length universe.predicates → ⊥ = λ l. absurd (grind (arith, nat_tests, t, l)) in
          rw (none_true new q vs size-new out, none_true source q vs size-source out, none_true old q vs size-old out) (both_false (q == p)))

-- ---- several predicates

eq_swap : (a b : ℕ) → (a == b) ≡ (b == a)
eq_swap a b = ⊎_elim (λ e. e.0 ∙ sym (eq-eqb b a (sym e.1))) (λ e. e.0 ∙ sym (ne_eqb b a (λ same. e.1 (sym same)))) (eqb_tells a b)

if_or : {A : Type 0} (b c : Bool) (x y : A) → (if c then x else (if b then x else y)) ≡ (if b || c then x else y)
if_or true true x y = refl
if_or true false x y = refl
if_or false true x y = refl
if_or false false x y = refl

pub takes_none : (universe : Universe) (source old : List Bool) → TakesExtents universe source old old []
takes_none universe source old = record { takes = λ q vs. refl }

pub takes_more : (universe : Universe) (source old now next : List Bool) (ps : List ℕ) (i d : ℕ) → i < length ps → TakesExtents universe source old now (take i ps) → TakesExtent universe source now next (get_or ps i d) → TakesExtents universe source old next (take (i + 1) ps)
takes_more universe source old now next ps i d l before one = record {
  takes = λ q vs.
      let p = get_or ps i d in
      let front : list_any (λ r. r == q) (take (i + 1) ps) ≡ (list_any (λ r. r == q) (take i ps) || (p == q)) = ap (list_any (λ r. r == q)) (take_more ps i d l) ∙ list_any-append (λ r. r == q) (take i ps) (p ∷ []) ∙ ap (λ b. list_any (λ r. r == q) (take i ps) || b) (or-false (p == q)) in
      one.takes q vs ∙ ap (λ b. if b then structure_of universe source q vs else structure_of universe now q vs) (eq_swap q p) ∙ ap (λ z. if p == q then structure_of universe source q vs else z) (before.takes q vs)
      ∙ if_or (list_any (λ r. r == q) (take i ps)) (p == q) (structure_of universe source q vs) (structure_of universe old q vs)
      ∙ ap (λ b. if b then structure_of universe source q vs else structure_of universe old q vs) (sym front);
}
