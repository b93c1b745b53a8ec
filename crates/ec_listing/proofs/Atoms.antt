-- The atoms of a narrative and their numbers.
use Rattle.std.proofs.Common.{◌≡◌, ℕ, zero, suc, ◌+◌, ◌-◌, ◌*◌, ◌<◌, ◌≤◌, ◌==◌, Bool, true, false, ◌||◌, if◌then◌else◌, List, [], ◌∷◌, ◌++◌, length, slice_get, unwrap_or, Some, option_map, ℤ, refl, sym, ap, ◌∙◌, arith}
use Rattle.std.specs.List.{AllByRecursion, flat_map, range_with_len}
use Rattle.std.proofs.lemmas.Option.{slice_get-map}
use Rattle.ec_logic.specs.Signature.{Signature, SymbolRow, time_sort, event_sort, fluent_sort, holds_at, released_at, happens, built_in}
use Rattle.ec_logic.specs.BuiltIn.{built_in_predicates}
use Rattle.ec_logic.specs.Atom.{GroundAtom, atom_at, tuples_of, atoms_of, visible_atoms, visible_predicates, predicates_in_order, declared, atoms_before, number_of, structure_of}
use Rattle.ec_logic.specs.Total.{total}
use Rattle.ec_logic.specs.Truth.{IsTuple}
use Rattle.ec_logic.specs.Turns.{IsValueOf}
use Rattle.ec_logic.specs.Universe.{Universe, universe_of, extent_at, row_of, tuples, tuple_at, tuple_rank}
use Rattle.ec_logic.specs.Valid.{IsSignature}
use Rattle.ec_logic.proofs.FewAtoms.{six_predicates}
use Rattle.ec_logic.proofs.Numbering.{visible_count, tuple_rank-tuple_at}
use Rattle.ec_logic.proofs.Numbers.{is_one_of, number_same}
use Rattle.ec_logic.proofs.Tests.{same_number, same_itself}
use Rattle.ec_logic.proofs.Tuples.{tuple_rank_below}
use Rattle.ec_listing.specs.Slots.{atom_number, truth_at}
use Rattle.ec_listing.proofs.Lists.{Pairs, each_map, each_joined, each_weaker, each_both, pairs_map, pairs_joined, crosses_map}
use Rattle.ec_listing.proofs.Domains.{range_each, range_different}
use Rattle.ec_listing.proofs.Names.{built_in_at}

-- the atoms of the first predicates have the first numbers
first_numbers : (universe : Universe) (qs rs : List ℕ) (p k : ℕ) → is_one_of qs p ≡ true → k < tuples_of universe p → atoms_before universe (qs ++ rs) p + k < total universe qs
first_numbers universe [] rs p k h l = cc
first_numbers universe (q ∷ qs) rs p k h l = by_test (q == p) refl h (first_numbers universe qs rs p k)
  where
    by_test : (b : Bool) → (q == p) ≡ b → (b || is_one_of qs p) ≡ true → (is_one_of qs p ≡ true → k < tuples_of universe p → atoms_before universe (qs ++ rs) p + k < total universe qs)
        → (if b then 0 else tuples_of universe q + atoms_before universe (qs ++ rs) p) + k < tuples_of universe q + total universe qs
    by_test true e h next = let same = ap (tuples_of universe) (same_number q p e) in omega (arith, same, l)
    by_test false e h next = omega (arith, next h l)

pub pair_placed : (universe : Universe) (a b : ℕ) (v w : ℤ) → IsValueOf (extent_at universe a) v → IsValueOf (extent_at universe b) w → (k : ℕ) × (tuple_rank universe (a ∷ b ∷ []) (v ∷ w ∷ []) ≡ Some k)
pair_placed universe a b v w h k = (h.0 * tuples universe (b ∷ []) + (k.0 * tuples universe [] + 0), rw (h.1, k.1) refl)

-- two atoms of other predicates or of other arguments
abbrev pub AreApartAtoms : GroundAtom → GroundAtom → Type 0
AreApartAtoms a b = a.predicate ≡ b.predicate → a.args ≡ b.args → ⊥

module _ (signature : Signature) (valid : IsSignature signature) where
  abbrev universe : Universe
  universe = universe_of signature

  pub row_is : (k : ℕ) → k < 6 → row_of universe.predicates k ≡ unwrap_or (option_map (λ (row : SymbolRow). row.sorts) (slice_get built_in_predicates k)) []
  row_is k h = ap (λ o. unwrap_or o []) (slice_get-map (λ (row : SymbolRow). row.sorts) signature.predicates k ∙ ap (option_map (λ (row : SymbolRow). row.sorts)) (built_in_at signature valid k h))

  known : (p : ℕ) → p < 6 → p < length universe.predicates
  known p h = let six = six_predicates signature valid in omega (arith, six, h)

  moved : (p : ℕ) (ss : List ℕ) (vs : List ℤ) → row_of universe.predicates p ≡ ss → (k : ℕ) × (tuple_rank universe ss vs ≡ Some k) → (k : ℕ) × (tuple_rank universe (row_of universe.predicates p) vs ≡ Some k)
  moved p ss vs e h = (h.0, ap (λ xs. tuple_rank universe xs vs) e ∙ h.1)

  -- ---- atoms of times

  pub holds_tuple : (f t : ℤ) → IsValueOf (extent_at universe fluent_sort) f → IsValueOf (extent_at universe time_sort) t → IsTuple universe holds_at (f ∷ t ∷ [])
  holds_tuple f t h k = (known 0 (omega arith), moved 0 (fluent_sort ∷ time_sort ∷ []) (f ∷ t ∷ []) (row_is 0 (omega arith)) (pair_placed universe fluent_sort time_sort f t h k))

  pub released_tuple : (f t : ℤ) → IsValueOf (extent_at universe fluent_sort) f → IsValueOf (extent_at universe time_sort) t → IsTuple universe released_at (f ∷ t ∷ [])
  released_tuple f t h k = (known 1 (omega arith), moved 1 (fluent_sort ∷ time_sort ∷ []) (f ∷ t ∷ []) (row_is 1 (omega arith)) (pair_placed universe fluent_sort time_sort f t h k))

  pub happens_tuple : (e t : ℤ) → IsValueOf (extent_at universe event_sort) e → IsValueOf (extent_at universe time_sort) t → IsTuple universe happens (e ∷ t ∷ [])
  happens_tuple e t h k = (known 2 (omega arith), moved 2 (event_sort ∷ time_sort ∷ []) (e ∷ t ∷ []) (row_is 2 (omega arith)) (pair_placed universe event_sort time_sort e t h k))

  -- ---- numbers

  pub number_there : (p : ℕ) (vs : List ℤ) → IsTuple universe p vs → number_of universe p vs ≡ Some (atom_number signature p vs)
  number_there p vs h = rw h.1.1 refl

  -- the truth of an atom is that at its number
  pub truth_is : (truth : List Bool) (p : ℕ) (vs : List ℤ) → IsTuple universe p vs → structure_of universe truth p vs ≡ truth_at truth (atom_number signature p vs)
  truth_is truth p vs h = rw h.1.1 refl

  pub one_number : (p q : ℕ) (us vs : List ℤ) → IsTuple universe p us → IsTuple universe q vs → atom_number signature p us ≡ atom_number signature q vs → (p ≡ q) × (us ≡ vs)
  one_number p q us vs h k e = number_same universe p q us vs (atom_number signature p us) h.0 k.0 (number_there p us h) (number_there q vs k ∙ ap Some (sym e))

  pub number_visible : (p : ℕ) (vs : List ℤ) → is_one_of (visible_predicates universe) p ≡ true → IsTuple universe p vs → atom_number signature p vs < length (visible_atoms universe)
  number_visible p vs one h =
      let count = visible_count universe in
      let low = first_numbers universe (visible_predicates universe) (3 ∷ 4 ∷ 5 ∷ []) p h.1.0 one (tuple_rank_below universe (row_of universe.predicates p) vs h.1.0 h.1.1) in
      let is : atom_number signature p vs ≡ atoms_before universe (predicates_in_order universe) p + h.1.0 = rw h.1.1 refl in
      omega (arith, count, low, is)

  -- ---- atoms of declared predicates

  abbrev pub declared_atoms : List GroundAtom
  declared_atoms = flat_map (atoms_of universe) (declared universe)

  -- an atom of a declared predicate
  pub record IsDeclaredAtom (atom : GroundAtom) : Type 0 where
    pub high : 6 ≤ atom.predicate
    pub visible : is_one_of (visible_predicates universe) atom.predicate ≡ true
    pub tuple : IsTuple universe atom.predicate atom.args

  -- a declared predicate
  record IsDeclared (p : ℕ) : Type 0 where
    high : 6 ≤ p
    low : p < length universe.predicates
    visible : is_one_of (visible_predicates universe) p ≡ true

  listed : (qs : List ℕ) → AllByRecursion (λ p. is_one_of qs p ≡ true) qs
  listed [] = tt
  listed (q ∷ qs) = (itself q, each_weaker (λ p. is_one_of qs p ≡ true) (λ p. is_one_of (q ∷ qs) p ≡ true) (λ p h. later (q == p) (is_one_of qs p) h) qs (listed qs))
    where
      later : (a b : Bool) → b ≡ true → (a || b) ≡ true
      later true b h = refl
      later false b h = h

      itself : (p : ℕ) → is_one_of (p ∷ qs) p ≡ true
      itself p = rw (same_itself p) refl

  range_bounds : (from n : ℕ) → AllByRecursion (λ p. (from ≤ p) × (p < from + n)) (range_with_len from n)
  range_bounds from zero = tt
  range_bounds from (suc n) = ((omega arith, omega arith), each_weaker (λ p. (from + 1 ≤ p) × (p < from + 1 + n)) (λ p. (from ≤ p) × (p < from + suc n)) (λ p h. (omega (arith, h.0), omega (arith, h.1))) (range_with_len (from + 1) n) (range_bounds (from + 1) n))

  declared_each : AllByRecursion IsDeclared (declared universe)
  declared_each =
      each_weaker (λ p. ((6 ≤ p) × (p < 6 + (length universe.predicates - 6))) × (is_one_of (declared universe) p ≡ true)) IsDeclared
      (λ p h. record { high = h.0.0; low = (let six = six_predicates signature valid in omega (arith, six, h.0.1)); visible = (let three = outer (0 == p) (1 == p) (2 == p) (is_one_of (declared universe) p) h.1 in three) })
      (declared universe)
      (both (range_bounds 6 (length universe.predicates - 6)) (listed (declared universe)))
    where
      outer : (a b c d : Bool) → d ≡ true → (a || (b || (c || d))) ≡ true
      outer true b c d h = refl
      outer false true c d h = refl
      outer false false true d h = refl
      outer false false false d h = h

      both : AllByRecursion (λ p. (6 ≤ p) × (p < 6 + (length universe.predicates - 6))) (declared universe) → AllByRecursion (λ p. is_one_of (declared universe) p ≡ true) (declared universe)
          → AllByRecursion (λ p. ((6 ≤ p) × (p < 6 + (length universe.predicates - 6))) × (is_one_of (declared universe) p ≡ true)) (declared universe)
      both h k = each_both (λ p. (6 ≤ p) × (p < 6 + (length universe.predicates - 6))) (λ p. is_one_of (declared universe) p ≡ true) (declared universe) h k

  placed : (p : ℕ) → IsDeclared p → (k : ℕ) → k < tuples_of universe p → IsDeclaredAtom (atom_at universe p k)
  placed p h k l = record { high = h.high; visible = h.visible; tuple = (h.low, (k, tuple_rank-tuple_at universe (row_of universe.predicates p) k l)) }

  pub each_declared_atom : AllByRecursion IsDeclaredAtom declared_atoms
  each_declared_atom = each_joined IsDeclaredAtom (atoms_of universe) (declared universe)
      (each_weaker IsDeclared (λ p. AllByRecursion IsDeclaredAtom (atoms_of universe p))
      (λ p h. each_map IsDeclaredAtom (atom_at universe p) (range_with_len 0 (tuples_of universe p)) (range_each (λ k. IsDeclaredAtom (atom_at universe p k)) (tuples_of universe p) (placed p h)))
      (declared universe) declared_each)

  one_place : (p j k : ℕ) → j < tuples_of universe p → k < tuples_of universe p → tuple_at universe (row_of universe.predicates p) j ≡ tuple_at universe (row_of universe.predicates p) k → j ≡ k
  one_place p j k h l e =
      let ss = row_of universe.predicates p in
      let same : Some j ≡ Some k = sym (tuple_rank-tuple_at universe ss j h) ∙ (ap (tuple_rank universe ss) e ∙ tuple_rank-tuple_at universe ss k l) in
      cc

  pub declared_atoms_apart : Pairs AreApartAtoms declared_atoms
  declared_atoms_apart = pairs_joined AreApartAtoms (λ p. Unit {0}) (atoms_of universe)
      (λ p u. pairs_map AreApartAtoms (λ k. k < tuples_of universe p) (atom_at universe p) (λ x y h l apart. λ e f. apart (one_place p x y h l f)) (range_with_len 0 (tuples_of universe p)) (range_each (λ k. k < tuples_of universe p) (tuples_of universe p) (λ k l. l)) (range_different 0 (tuples_of universe p)))
      (λ p q u v apart. crosses_map AreApartAtoms (λ k. Unit {0}) ℕ (λ k. Unit {0}) (atom_at universe p) (atom_at universe q) (λ x y a b. λ e f. apart e) (range_with_len 0 (tuples_of universe p)) (range_with_len 0 (tuples_of universe q)) (range_each (λ k. Unit {0}) (tuples_of universe p) (λ k l. tt)) (range_each (λ k. Unit {0}) (tuples_of universe q) (λ k l. tt)))
      (declared universe) (units (declared universe)) (range_different built_in (length universe.predicates - built_in))
    where
      units : (xs : List ℕ) → AllByRecursion (λ p. Unit {0}) xs
      units [] = tt
      units (x ∷ xs) = (tt, units xs)
