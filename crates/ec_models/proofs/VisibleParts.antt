-- A structure and its visible truth.
use Rattle.std.proofs.Common.{◌≡◌, ℕ, zero, suc, ◌+◌, ◌-◌, ◌<◌, ◌≤◌, ◌==◌, ◌||◌, Bool, true, false, if◌then◌else◌, List, [], ◌∷◌, ◌++◌, map, take, length, ℤ, Option, Some, None, unwrap_or, slice_get, refl, sym, ap, arith, ◌∙◌}
use Rattle.std.proofs.lemmas.Bool.Decides.{nat_tests}
use Rattle.std.proofs.lemmas.Grind.{flat_map-append}
use Rattle.std.proofs.lemmas.List.{length-map, map-append}
use Rattle.std.proofs.lemmas.List.Folds.{list_any-append}
use Rattle.std.specs.List.{flat_map, range_with_len}
use Rattle.ec_logic.specs.Universe.{Universe, row_of, tuple_rank}
use Rattle.ec_logic.specs.Truth.{Structure, IsStructure}
use Rattle.ec_logic.specs.Atom.{GroundAtom, visible_predicates, predicates_in_order, tuples_of, atom_at, atoms_of, visible_atoms, all_atoms, atoms_before, number_of, visible_truth, structure_of}
use Rattle.ec_logic.specs.Total.{total}
use Rattle.ec_logic.proofs.Tests.{or_cases, or_left, test_cases, same_number}
use Rattle.ec_logic.proofs.Tuples.{tuple_rank_below}
use Rattle.ec_logic.proofs.Numbering.{visible_count}
use Rattle.ec_logic.proofs.Numbers.{is_one_of, in_order}
use Rattle.ec_logic.proofs.MarkedBits.{numbered, structure_at, structure_none}
use Rattle.ec_atom.proofs.AtomLaws.{all_numbered, truths_of_structure, structure_of_truths}
use Rattle.ec_minimal.proofs.SupportLemmas.{is_structure}

abbrev pub effects : List ℕ
effects = 3 ∷ 4 ∷ 5 ∷ []

-- ---- the front of a list

take_front : {X : Type 0} (xs ys : List X) → take (length xs) (xs ++ ys) ≡ xs
take_front [] ys = refl
take_front (x ∷ xs) ys = ap (λ zs. x ∷ zs) (take_front xs ys)

get_front : {X : Type 0} (xs : List X) (n k : ℕ) → k < n → slice_get (take n xs) k ≡ slice_get xs k
get_front xs zero k l = absurd (omega (arith, l))
get_front [] (suc n) k l = refl
get_front (x ∷ xs) (suc n) zero l = refl
get_front (x ∷ xs) (suc n) (suc k) l = get_front xs n k (omega (arith, l))

module _ (universe : Universe) where
  -- the truths of some atoms in a structure
  abbrev pub truths_of : Structure → List GroundAtom → List Bool
  truths_of m atoms = map (λ (atom : GroundAtom). m atom.predicate atom.args) atoms

  visible_front : (m : Structure) → take (length (visible_atoms universe)) (truths_of m (all_atoms universe)) ≡ visible_truth universe m
  visible_front m =
      let parts : all_atoms universe ≡ visible_atoms universe ++ flat_map (atoms_of universe) effects = flat_map-append (atoms_of universe) (visible_predicates universe) effects in
      let halves = ap (truths_of m) parts ∙ map-append (λ (atom : GroundAtom). m atom.predicate atom.args) (visible_atoms universe) (flat_map (atoms_of universe) effects) in
      let count : length (visible_atoms universe) ≡ length (visible_truth universe m) = sym (length-map (visible_atoms universe) (λ (atom : GroundAtom). m atom.predicate atom.args)) in
      ap (take (length (visible_atoms universe))) halves ∙ (ap (λ n. take n (visible_truth universe m ++ truths_of m (flat_map (atoms_of universe) effects))) count ∙ take_front (visible_truth universe m) (truths_of m (flat_map (atoms_of universe) effects)))

  -- the visible truth of the structure of truths of all atoms are the first of these
  pub visible_of : 6 ≤ length universe.predicates → (bits : List Bool) → length bits ≡ length (all_atoms universe) → visible_truth universe (structure_of universe bits) ≡ take (length (visible_atoms universe)) bits
  visible_of many bits size = sym (visible_front (structure_of universe bits)) ∙ ap (take (length (visible_atoms universe))) (truths_of_structure universe (all_atoms universe) (all_numbered universe many) bits size)

  -- ---- no visible atom is of an effect predicate

  late_no_effect : (from n p : ℕ) → 6 ≤ from → is_one_of (range_with_len from n) p ≡ true → is_one_of effects p ≡ false
  late_no_effect from zero p l h = cc
  late_no_effect from (suc n) p l h = or_cases (is_one_of effects p ≡ false) (from == p) (is_one_of (range_with_len (from + 1) n) p)
      (λ e.
      let same = same_number from p e in
      let a : (3 == p) ≡ false = grind (arith, nat_tests, same, l) in
      let b : (4 == p) ≡ false = grind (arith, nat_tests, same, l) in
      let c : (5 == p) ≡ false = grind (arith, nat_tests, same, l) in
      rw (a, b, c) refl)
      (late_no_effect (from + 1) n p (omega (arith, l))) h

  visible_no_effect : (p : ℕ) → is_one_of (visible_predicates universe) p ≡ true → is_one_of effects p ≡ false
  visible_no_effect zero h = refl
  visible_no_effect (suc zero) h = refl
  visible_no_effect (suc (suc zero)) h = refl
  visible_no_effect (suc (suc (suc p))) h =
      let a : (0 == suc (suc (suc p))) ≡ false = grind (arith, nat_tests) in
      let b : (1 == suc (suc (suc p))) ≡ false = grind (arith, nat_tests) in
      let c : (2 == suc (suc (suc p))) ≡ false = grind (arith, nat_tests) in
      late_no_effect 6 (length universe.predicates - 6) (suc (suc (suc p))) (omega arith) (rw (a, b, c) at h)

  -- ---- what two structures have in common

  module _ (m n : Structure) (agree : (p : ℕ) (vs : List ℤ) → is_one_of effects p ≡ false → m p vs ≡ n p vs) where
    same_on : (p : ℕ) → is_one_of effects p ≡ false → (ks : List ℕ) → truths_of m (map (atom_at universe p) ks) ≡ truths_of n (map (atom_at universe p) ks)
    same_on p h [] = refl
    same_on p h (k ∷ ks) = let first = agree p (atom_at universe p k).args h in rw (first, same_on p h ks) refl

    same_on_each : (qs : List ℕ) → ((p : ℕ) → is_one_of qs p ≡ true → is_one_of effects p ≡ false) → truths_of m (flat_map (atoms_of universe) qs) ≡ truths_of n (flat_map (atoms_of universe) qs)
    same_on_each [] h = refl
    same_on_each (q ∷ qs) h =
        let here = same_on q (h q (or_left (q == q) (is_one_of qs q) (grind (arith, nat_tests)))) (range_with_len 0 (tuples_of universe q)) in
        let later = same_on_each qs (λ p e. h p (or_more (q == p) (is_one_of qs p) e)) in
        map-append (λ (atom : GroundAtom). m atom.predicate atom.args) (atoms_of universe q) (flat_map (atoms_of universe) qs)
        ∙ (rw (here, later) refl ∙ sym (map-append (λ (atom : GroundAtom). n atom.predicate atom.args) (atoms_of universe q) (flat_map (atoms_of universe) qs)))
      where
        or_more : (a b : Bool) → b ≡ true → (a || b) ≡ true
        or_more true b e = refl
        or_more false b e = e

    -- the visible truth is the same where all but the effects are
    pub visible_same : visible_truth universe m ≡ visible_truth universe n
    visible_same = same_on_each (visible_predicates universe) visible_no_effect

  -- ---- all but the effects follows from the visible truth

  before_within : (qs rs : List ℕ) (p : ℕ) → is_one_of qs p ≡ true → atoms_before universe (qs ++ rs) p + tuples_of universe p ≤ total universe qs
  before_within [] rs p h = cc
  before_within (q ∷ qs) rs p h = by_test (q == p) refl h (before_within qs rs p)
    where
      by_test : (b : Bool) → (q == p) ≡ b → (b || is_one_of qs p) ≡ true → (is_one_of qs p ≡ true → atoms_before universe (qs ++ rs) p + tuples_of universe p ≤ total universe qs)
          → (if b then 0 else tuples_of universe q + atoms_before universe (qs ++ rs) p) + tuples_of universe p ≤ tuples_of universe q + total universe qs
      by_test true e h next = let same = ap (tuples_of universe) (same_number q p e) in omega (arith, same)
      by_test false e h next = let more = next h in omega (arith, more)

  same_where : (a b : List Bool) → take (length (visible_atoms universe)) a ≡ take (length (visible_atoms universe)) b → (p : ℕ) (vs : List ℤ) → is_one_of (visible_predicates universe) p ≡ true → structure_of universe a p vs ≡ structure_of universe b p vs
  same_where a b same p vs h = by_rank (tuple_rank universe (row_of universe.predicates p) vs) refl
    where
      by_rank : (o : Option ℕ) → tuple_rank universe (row_of universe.predicates p) vs ≡ o → structure_of universe a p vs ≡ structure_of universe b p vs
      by_rank None e =
          let none : number_of universe p vs ≡ None = rw e refl in
          structure_none universe a p vs none ∙ sym (structure_none universe b p vs none)
      by_rank (Some j) e =
          let at = numbered universe p vs j e in
          let k = atoms_before universe (predicates_in_order universe) p + j in
          let below = tuple_rank_below universe (row_of universe.predicates p) vs j e in
          let within = before_within (visible_predicates universe) effects p h in
          let count = visible_count universe in
          let low : k < length (visible_atoms universe) = omega (arith, below, within, count) in
          let there : slice_get a k ≡ slice_get b k = sym (get_front a (length (visible_atoms universe)) k low) ∙ (ap (λ xs. slice_get xs k) same ∙ get_front b (length (visible_atoms universe)) k low) in
          structure_at universe a p vs k at ∙ (ap (λ o. unwrap_or o false) there ∙ sym (structure_at universe b p vs k at))

  not_visible : (m : Structure) → IsStructure universe m → (p : ℕ) (vs : List ℤ) → is_one_of (visible_predicates universe) p ≡ false → is_one_of effects p ≡ false → m p vs ≡ false
  not_visible m is p vs a b = test_cases (m p vs ≡ false) (m p vs)
      (λ t.
      let known = in_order universe p (is p vs t).0 in
      let parts = list_any-append (λ q. q == p) (visible_predicates universe) effects in
      let none : is_one_of (predicates_in_order universe) p ≡ false = parts ∙ rw (a, b) refl in
      cc)
      (λ e. e)

  -- a structure with the visible truth of these truths has all but the effects of them
  pub same_but_effects : 6 ≤ length universe.predicates → (m : Structure) → IsStructure universe m → (bits : List Bool) → length bits ≡ length (all_atoms universe)
      → visible_truth universe m ≡ take (length (visible_atoms universe)) bits → (p : ℕ) (vs : List ℤ) → is_one_of effects p ≡ false → m p vs ≡ structure_of universe bits p vs
  same_but_effects many m is bits size visible p vs h =
      test_cases (m p vs ≡ structure_of universe bits p vs) (is_one_of (visible_predicates universe) p)
      (λ e.
      let all = truths_of m (all_atoms universe) in
      sym (structure_of_truths universe m is p vs) ∙ same_where all bits (visible_front m ∙ visible) p vs e)
      (λ e. not_visible m is p vs e h ∙ sym (not_visible (structure_of universe bits) (is_structure universe bits many size) p vs e h))
