-- A bit set at the number of an atom.
use Rattle.std.proofs.Common.{◌≡◌, ℕ, zero, suc, ◌+◌, ◌==◌, ◌<◌, Bool, true, false, ◌||◌, List, [], ◌∷◌, length, set, ℤ, Some, None, refl, arith, unwrap_or, slice_get}
use Rattle.ec_logic.specs.Universe.{Universe, row_of, tuple_rank}
use Rattle.ec_logic.specs.Value.{same_values}
use Rattle.ec_logic.specs.Atom.{atoms_before, predicates_in_order, number_of, structure_of}
use Rattle.ec_logic.specs.Marks.{Joins, is_tuple}
use Rattle.ec_logic.proofs.Tests.{and_parts, test_cases, same_number, same_itself, same_values_same, same_values_itself}
use Rattle.ec_logic.proofs.Numbers.{number_same}

set_same : (bits : List Bool) (k : ℕ) → k < length bits → slice_get (set bits k true) k ≡ Some true
set_same [] k h = absurd (omega arith)
set_same (b ∷ bits) zero h = refl
set_same (b ∷ bits) (suc k) h = set_same bits k (omega arith)

set_other : (bits : List Bool) (k i : ℕ) → (i ≡ k → ⊥) → slice_get (set bits k true) i ≡ slice_get bits i
set_other [] k i h = refl
set_other (b ∷ bits) zero zero h = absurd (h refl)
set_other (b ∷ bits) zero (suc i) h = refl
set_other (b ∷ bits) (suc k) zero h = refl
set_other (b ∷ bits) (suc k) (suc i) h = set_other bits k i (λ e. h (omega (arith, e)))

or_true : (a : Bool) → true ≡ (a || true)
or_true true = refl
or_true false = refl

or_none : (b : Bool) → b ≡ (b || false)
or_none true = refl
or_none false = refl

-- the truth at an atom's number
pub structure_at : (universe : Universe) (bits : List Bool) (p : ℕ) (vs : List ℤ) (k : ℕ) → number_of universe p vs ≡ Some k → structure_of universe bits p vs ≡ unwrap_or (slice_get bits k) false
structure_at universe bits p vs k h = rw h refl

pub structure_none : (universe : Universe) (bits : List Bool) (p : ℕ) (vs : List ℤ) → number_of universe p vs ≡ None → structure_of universe bits p vs ≡ false
structure_none universe bits p vs h = rw h refl

-- a tuple of the domains has a number
pub numbered : (universe : Universe) (p : ℕ) (vs : List ℤ) (j : ℕ) → tuple_rank universe (row_of universe.predicates p) vs ≡ Some j → number_of universe p vs ≡ Some (atoms_before universe (predicates_in_order universe) p + j)
numbered universe p vs j h = rw h refl

-- the bit at an atom's number joins the atom
pub joins_set : (universe : Universe) (bits : List Bool) (q : ℕ) (us : List ℤ) (k : ℕ) → q < length universe.predicates → number_of universe q us ≡ Some k → k < length bits
    → Joins universe (is_tuple q us) (structure_of universe bits) (structure_of universe (set bits k true))
joins_set universe bits q us k known h room = record {
  joined = λ p vs t.
      let at = numbered universe p vs t.1.0 t.1.1 in
      rw (structure_at universe (set bits k true) p vs _ at, structure_at universe bits p vs _ at)
      (by_test p vs t.0 (atoms_before universe (predicates_in_order universe) p + t.1.0) at (is_tuple q us p vs) refl);
}
  where
    by_test : (p : ℕ) (vs : List ℤ) → p < length universe.predicates → (i : ℕ) → number_of universe p vs ≡ Some i → (b : Bool) → is_tuple q us p vs ≡ b → unwrap_or (slice_get (set bits k true) i) false ≡ (unwrap_or (slice_get bits i) false || is_tuple q us p vs)
    by_test p vs known-p i at true e =
        let both = and_parts (q == p) (same_values us vs) e in
        let first = same_number q p both.0 in
        let second = same_values_same us vs both.1 in
        let there : number_of universe p vs ≡ Some k = rw (first, second) at h in
        let same : i ≡ k = cc in
        rw (same, set_same bits k room, e) (or_true (unwrap_or (slice_get bits k) false))
    by_test p vs known-p i at false e =
        let differs : i ≡ k → ⊥ = λ s.
        (let here : number_of universe p vs ≡ Some k = rw s at at in
        let same = number_same universe q p us vs k known known-p h here in
        let found : is_tuple q us p vs ≡ true = rw (same.0, same.1, same_itself p, same_values_itself vs) refl in
        cc)
        in
        rw (set_other bits k i differs, e) (or_none (unwrap_or (slice_get bits i) false))

-- a head that is no atom joins none
pub joins_outside_domains : (universe : Universe) (bits : List Bool) (q : ℕ) (us : List ℤ) → number_of universe q us ≡ None → Joins universe (is_tuple q us) (structure_of universe bits) (structure_of universe bits)
joins_outside_domains universe bits q us h = record {
  joined = λ p vs t. test_cases (structure_of universe bits p vs ≡ (structure_of universe bits p vs || is_tuple q us p vs)) (is_tuple q us p vs)
      (λ e.
      let both = and_parts (q == p) (same_values us vs) e in
      let first = same_number q p both.0 in
      let second = same_values_same us vs both.1 in
      let none : number_of universe p vs ≡ None = rw (first, second) at h in
      let some = numbered universe p vs t.1.0 t.1.1 in
      cc)
      (λ e. rw e (or_none (structure_of universe bits p vs)));
}
