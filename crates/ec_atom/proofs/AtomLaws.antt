-- Each atom stands in the order at its number, and a structure is what its truths by number say.
use Rattle.std.proofs.Common.{◌≡◌, ℕ, zero, suc, ◌+◌, ◌-◌, ◌<◌, ◌≤◌, ◌==◌, nat_lt, Bool, true, false, ◌||◌, if◌then◌else◌, ℤ, List, [], ◌∷◌, ◌++◌, length, map, take, slice_get, unwrap_or, Option, Some, None, option_map, refl, sym, ap, subst, ◌∙◌, arith}
use Rattle.std.specs.List.{flat_map, range_with_len}
use Rattle.std.proofs.lemmas.Bool.Decides.{nat_tests}
use Rattle.std.proofs.lemmas.List.FromFn.{length-map-range_with_len}
use Rattle.std.proofs.lemmas.Option.{slice_get-map, slice_get_past, slice_get_within}
use Rattle.ec_logic.specs.Universe.{Universe, row_of, tuple_at, tuple_rank}
use Rattle.ec_logic.specs.Truth.{Structure, IsTuple, IsStructure}
use Rattle.ec_logic.specs.Atom.{GroundAtom, atom_at, tuples_of, atoms_of, visible_atoms, all_atoms, visible_predicates, predicates_in_order, atoms_before, number_of, structure_of}
use Rattle.ec_logic.specs.Total.{total}
use Rattle.ec_logic.proofs.Tests.{same_number}
use Rattle.ec_logic.proofs.Tuples.{tuple_rank_below}
use Rattle.ec_logic.proofs.Numbering.{tuple_rank-tuple_at, tuple_at-tuple_rank, all_count}
use Rattle.ec_logic.proofs.Numbers.{is_one_of, in_order}
use Rattle.ec_logic.proofs.AtomOrder.{predicate_at, place_in_order, order_length, first_is, total_next}
use Rattle.std.proofs.lemmas.Grind.{flat_map-append}
use Rattle.ec_logic.proofs.MarkedBits.{structure_at, structure_none}

-- ---- lists one behind the other

front_at : {X : Type 0} (xs ys : List X) (k : ℕ) → k < length xs → slice_get (xs ++ ys) k ≡ slice_get xs k
front_at [] ys k h = absurd (omega (arith, h))
front_at (x ∷ xs) ys zero h = refl
front_at (x ∷ xs) ys (suc k) h = front_at xs ys k (omega (arith, h))

back_at : {X : Type 0} (xs ys : List X) (n k : ℕ) → length xs ≡ n → slice_get (xs ++ ys) (n + k) ≡ slice_get ys k
back_at [] ys zero k e = let z : 0 + k ≡ k = omega arith in rw z refl
back_at [] ys (suc n) k e = absurd (omega (arith, e))
back_at (x ∷ xs) ys zero k e = absurd (omega (arith, e))
back_at (x ∷ xs) ys (suc n) k e = let z : suc n + k ≡ suc (n + k) = omega arith in rw z (back_at xs ys n k (omega (arith, e)))

range_at : (f n k : ℕ) → k < n → slice_get (range_with_len f n) k ≡ Some (f + k)
range_at f zero k l = absurd (omega (arith, l))
range_at f (suc n) zero l = ap Some (omega arith)
range_at f (suc n) (suc k) l = range_at (f + 1) n k (omega (arith, l)) ∙ ap Some (omega arith)

-- ---- places of the order

pub predicate_known : (n i : ℕ) → 6 ≤ n → i < n → predicate_at n i < n
predicate_known n i many h = grind (arith, nat_tests)

pub place_again : (n i : ℕ) → 6 ≤ n → i < n → place_in_order n (predicate_at n i) ≡ i
place_again n i many h = grind (arith, nat_tests)

pub predicate_again : (n p : ℕ) → 6 ≤ n → p < n → predicate_at n (place_in_order n p) ≡ p
predicate_again n p many h = grind (arith, nat_tests)

pub place_known : (n p : ℕ) → 6 ≤ n → p < n → place_in_order n p < n
place_known n p many h = grind (arith, nat_tests)

-- ---- an atom at its number

module _ (universe : Universe) where
  own_at : (p j : ℕ) → j < tuples_of universe p → slice_get (atoms_of universe p) j ≡ Some (atom_at universe p j)
  own_at p j h = slice_get-map (atom_at universe p) (range_with_len 0 (tuples_of universe p)) j ∙ (ap (option_map (atom_at universe p)) (range_at 0 (tuples_of universe p) j h) ∙ ap (λ i. Some (atom_at universe p i)) (omega arith))

  own_count : (p : ℕ) → length (atoms_of universe p) ≡ tuples_of universe p
  own_count p = length-map-range_with_len (atom_at universe p) 0 (tuples_of universe p)

  at_number : (qs : List ℕ) (p j : ℕ) → is_one_of qs p ≡ true → j < tuples_of universe p → slice_get (flat_map (atoms_of universe) qs) (atoms_before universe qs p + j) ≡ Some (atom_at universe p j)
  at_number [] p j h l = cc
  at_number (q ∷ qs) p j h l = by_test (q == p) refl h (at_number qs p j)
    where
      by_test : (b : Bool) → (q == p) ≡ b → (b || is_one_of qs p) ≡ true → (is_one_of qs p ≡ true → j < tuples_of universe p → slice_get (flat_map (atoms_of universe) qs) (atoms_before universe qs p + j) ≡ Some (atom_at universe p j))
          → slice_get (atoms_of universe q ++ flat_map (atoms_of universe) qs) ((if b then 0 else tuples_of universe q + atoms_before universe qs p) + j) ≡ Some (atom_at universe p j)
      by_test true e o next =
          let same = same_number q p e in
          let c = own_count p in
          let z : 0 + j ≡ j = omega arith in
          rw (same, z) (front_at (atoms_of universe p) (flat_map (atoms_of universe) qs) j (omega (arith, c, l)) ∙ own_at p j l)
      by_test false e o next =
          let z : tuples_of universe q + atoms_before universe qs p + j ≡ tuples_of universe q + (atoms_before universe qs p + j) = omega arith in
          rw z (back_at (atoms_of universe q) (flat_map (atoms_of universe) qs) (tuples_of universe q) (atoms_before universe qs p + j) (own_count q) ∙ next o l)

  abbrev pub made : ℕ → List ℤ → GroundAtom
  made p vs = record { predicate = p; args = vs }

  ordered_there : (p k : ℕ) (vs : List ℤ) → is_one_of (predicates_in_order universe) p ≡ true → number_of universe p vs ≡ Some k → slice_get (all_atoms universe) k ≡ Some (made p vs)
  ordered_there p k vs known h = cases (tuple_rank universe (row_of universe.predicates p) vs) refl h
    where
      cases : (o : Option ℕ) → tuple_rank universe (row_of universe.predicates p) vs ≡ o → option_map (λ j. atoms_before universe (predicates_in_order universe) p + j) o ≡ Some k → slice_get (all_atoms universe) k ≡ Some (made p vs)
      cases None e i = cc
      cases (Some j) e i =
          let same : atoms_before universe (predicates_in_order universe) p + j ≡ k = cc in
          let low = tuple_rank_below universe (row_of universe.predicates p) vs j e in
          let args = tuple_at-tuple_rank universe (row_of universe.predicates p) vs j e in
          rw (← same) (at_number (predicates_in_order universe) p j known low ∙ ap (λ us. Some (made p us)) args)

  -- an atom with a number stands there
  pub atom_there : (p k : ℕ) (vs : List ℤ) → p < length universe.predicates → number_of universe p vs ≡ Some k → slice_get (all_atoms universe) k ≡ Some (record { predicate = p; args = vs })
  atom_there p k vs known h = ordered_there p k vs (in_order universe p known) h

  -- ---- the atom with a number

  -- the place of the order whose atoms a number is among
  record InBlock (qs : List ℕ) (k : ℕ) : Type 0 where
    pub place : ℕ
    pub within : place < length qs
    pub low : total universe (take place qs) ≤ k
    pub high : k < total universe (take (suc place) qs)

  in_block : (qs : List ℕ) (k : ℕ) → k < total universe qs → InBlock qs k
  in_block [] k h = absurd (omega (arith, h))
  in_block (q ∷ qs) k h = by_test (nat_lt k (tuples_of universe q)) refl (in_block qs (k - tuples_of universe q))
    where
      by_test : (b : Bool) → nat_lt k (tuples_of universe q) ≡ b → (k - tuples_of universe q < total universe qs → InBlock qs (k - tuples_of universe q)) → InBlock (q ∷ qs) k
      by_test true e next = record { place = 0; within = omega arith; low = omega arith; high = grind (arith, nat_tests) }
      by_test false e next =
          let far : tuples_of universe q ≤ k = grind (arith, nat_tests) in
          let rest = next (omega (arith, h, far)) in
          record { place = suc rest.place; within = omega (arith, rest.within); low = omega (arith, rest.low, far); high = omega (arith, rest.high, far) }

  module _ (many : 6 ≤ length universe.predicates) where
    abbrev n : ℕ
    n = length universe.predicates

    -- each atom's number is its place in the order
    pub all_numbered : (k : ℕ) (atom : GroundAtom) → slice_get (all_atoms universe) k ≡ Some atom → number_of universe atom.predicate atom.args ≡ Some k
    all_numbered k atom h =
        let count = all_count universe in
        let within = slice_get_within (all_atoms universe) k atom h in
        let block = in_block (predicates_in_order universe) k (omega (arith, count, within)) in
        let o = order_length universe many in
        let low : block.place < n = let w = block.within in omega (arith, o, w) in
        at_block block.place low block.low block.high
      where
        at_block : (i : ℕ) → i < n → total universe (take i (predicates_in_order universe)) ≤ k → k < total universe (take (suc i) (predicates_in_order universe)) → number_of universe atom.predicate atom.args ≡ Some k
        at_block i l a b =
            let p = predicate_at n i in
            let known = predicate_known n i many l in
            let first : atoms_before universe (predicates_in_order universe) p ≡ total universe (take i (predicates_in_order universe)) = first_is universe many p known ∙ ap (λ j. total universe (take j (predicates_in_order universe))) (place_again n i many l) in
            let s : suc i ≡ i + 1 = omega arith in
            let next = total_next universe many i l in
            let P : ℕ → Type 0 = λ m. k < total universe (take m (predicates_in_order universe)) in
            let high = subst P s b in
            let j = k - total universe (take i (predicates_in_order universe)) in
            let rank = tuple_rank-tuple_at universe (row_of universe.predicates p) j (omega (arith, next, high, a)) in
            let number : number_of universe p (tuple_at universe (row_of universe.predicates p) j) ≡ Some k = rw rank (ap Some (omega (arith, first, a))) in
            let there = atom_there p k (tuple_at universe (row_of universe.predicates p) j) known number in
            let same : made p (tuple_at universe (row_of universe.predicates p) j) ≡ atom = some_same (made p (tuple_at universe (row_of universe.predicates p) j)) atom (sym there ∙ h) in
            ap (λ (x : GroundAtom). number_of universe x.predicate x.args) (sym same) ∙ number
          where
            some_same : (x y : GroundAtom) → Some x ≡ Some y → x ≡ y
            some_same x y e = cc

    pub visible_numbered : (k : ℕ) (atom : GroundAtom) → slice_get (visible_atoms universe) k ≡ Some atom → number_of universe atom.predicate atom.args ≡ Some k
    visible_numbered k atom h =
        let within = slice_get_within (visible_atoms universe) k atom h in
        let parts : all_atoms universe ≡ visible_atoms universe ++ flat_map (atoms_of universe) (3 ∷ 4 ∷ 5 ∷ []) = flat_map-append (atoms_of universe) (visible_predicates universe) (3 ∷ 4 ∷ 5 ∷ []) in
        all_numbered k atom (ap (λ xs. slice_get xs k) parts ∙ (front_at (visible_atoms universe) (flat_map (atoms_of universe) (3 ∷ 4 ∷ 5 ∷ [])) k within ∙ h))

  -- ---- structures by the truths of the atoms

  -- each atom of a list has its place there as its number
  abbrev pub AreNumbered : List GroundAtom → Type 0
  AreNumbered atoms = (k : ℕ) (atom : GroundAtom) → slice_get atoms k ≡ Some atom → number_of universe atom.predicate atom.args ≡ Some k

  same_lists : (xs ys : List Bool) → length xs ≡ length ys → ((k : ℕ) → k < length ys → slice_get xs k ≡ slice_get ys k) → xs ≡ ys
  same_lists [] [] e h = refl
  same_lists [] (y ∷ ys) e h = absurd (omega (arith, e))
  same_lists (x ∷ xs) [] e h = absurd (omega (arith, e))
  same_lists (x ∷ xs) (y ∷ ys) e h =
      let first : x ≡ y = let f : Some x ≡ Some y = h 0 (omega arith) in cc in
      let rest = same_lists xs ys (omega (arith, e)) (λ k l. h (suc k) (omega (arith, l))) in
      cc

  length_mapped : (f : GroundAtom → Bool) (atoms : List GroundAtom) → length (map f atoms) ≡ length atoms
  length_mapped f [] = refl
  length_mapped f (a ∷ atoms) = ap suc (length_mapped f atoms)

  some_at : {X : Type 0} (xs : List X) (k : ℕ) → k < length xs → (x : X) × (slice_get xs k ≡ Some x)
  some_at [] k h = absurd (omega (arith, h))
  some_at (x ∷ xs) zero h = (x, refl)
  some_at (x ∷ xs) (suc k) h = some_at xs k (omega (arith, h))

  -- the truths of numbered atoms in the structure of truths are these
  pub truths_of_structure : (atoms : List GroundAtom) → AreNumbered atoms → (truths : List Bool) → length truths ≡ length atoms → map (λ (atom : GroundAtom). structure_of universe truths atom.predicate atom.args) atoms ≡ truths
  truths_of_structure atoms numbered truths e = same_lists (map f atoms) truths (length_mapped f atoms ∙ sym e) at
    where
      f : GroundAtom → Bool
      f atom = structure_of universe truths atom.predicate atom.args

      at : (k : ℕ) → k < length truths → slice_get (map f atoms) k ≡ slice_get truths k
      at k h =
          let atom = some_at atoms k (omega (arith, h, e)) in
          let truth = some_at truths k h in
          let here = structure_at universe truths atom.0.predicate atom.0.args k (numbered k atom.0 atom.1) in
          let value : f atom.0 ≡ truth.0 = here ∙ ap (λ o. unwrap_or o false) truth.1 in
          slice_get-map f atoms k ∙ (ap (option_map f) atom.1 ∙ (ap Some value ∙ sym truth.1))

  -- a structure is that of the truths of all atoms in it
  pub structure_of_truths : (m : Structure) → IsStructure universe m → (p : ℕ) (vs : List ℤ) → structure_of universe (map (λ (atom : GroundAtom). m atom.predicate atom.args) (all_atoms universe)) p vs ≡ m p vs
  structure_of_truths m is p vs = by_rank (tuple_rank universe (row_of universe.predicates p) vs) refl
    where
      f : GroundAtom → Bool
      f atom = m atom.predicate atom.args

      truths : List Bool
      truths = map f (all_atoms universe)

      none_false : (b : Bool) → m p vs ≡ b → (IsTuple universe p vs → ⊥) → false ≡ b
      none_false true e refuted = absurd (refuted (is p vs e))
      none_false false e refuted = refl

      not_before : (qs : List ℕ) → is_one_of qs p ≡ false → atoms_before universe qs p ≡ total universe qs
      not_before [] h = refl
      not_before (q ∷ qs) h = by_test (q == p) refl h (not_before qs)
        where
          by_test : (b : Bool) → (q == p) ≡ b → (b || is_one_of qs p) ≡ false → (is_one_of qs p ≡ false → atoms_before universe qs p ≡ total universe qs) → (if b then 0 else tuples_of universe q + atoms_before universe qs p) ≡ tuples_of universe q + total universe qs
          by_test true e h next = cc
          by_test false e h next = ap (λ n. tuples_of universe q + n) (next h)

      by_order : (j : ℕ) → number_of universe p vs ≡ Some (atoms_before universe (predicates_in_order universe) p + j) → (b : Bool) → is_one_of (predicates_in_order universe) p ≡ b → structure_of universe truths p vs ≡ m p vs
      by_order j number true o =
          let k = atoms_before universe (predicates_in_order universe) p + j in
          let there = ordered_there p k vs o number in
          let value : slice_get truths k ≡ Some (m p vs) = slice_get-map f (all_atoms universe) k ∙ ap (option_map f) there in
          structure_at universe truths p vs k number ∙ ap (λ o. unwrap_or o false) value
      by_order j number false o =
          let k = atoms_before universe (predicates_in_order universe) p + j in
          let last = not_before (predicates_in_order universe) o in
          let count = all_count universe in
          let l = length_mapped f (all_atoms universe) in
          let value : slice_get truths k ≡ None = slice_get_past truths k (omega (arith, last, count, l)) in
          structure_at universe truths p vs k number ∙ (ap (λ o. unwrap_or o false) value ∙ none_false (m p vs) refl (λ t. let one = in_order universe p t.0 in cc))

      by_rank : (o : Option ℕ) → tuple_rank universe (row_of universe.predicates p) vs ≡ o → structure_of universe truths p vs ≡ m p vs
      by_rank None e =
          let none : number_of universe p vs ≡ None = rw e refl in
          structure_none universe truths p vs none ∙ none_false (m p vs) refl (λ t. let one = t.1.1 in cc)
      by_rank (Some j) e =
          let number : number_of universe p vs ≡ Some (atoms_before universe (predicates_in_order universe) p + j) = rw e refl in
          by_order j number (is_one_of (predicates_in_order universe) p) refl
