-- The visible atoms of the declared predicates.
use Rattle.std.proofs.Common.{◌≡◌, ℕ, zero, suc, ◌+◌, ◌-◌, ◌<◌, ◌≤◌, Bool, false, List, [], ◌∷◌, ◌++◌, length, drop, slice_get, unwrap_or, Some, Result, Ok, Err, refl, sym, ap, ◌∙◌, arith, append_assoc, codes}
use Rattle.std.specs.Prelude.{OnOk}
use Rattle.std.specs.List.{flat_map}
use Rattle.std.proofs.lemmas.Grind.{flat_map-append}
use Rattle.std.proofs.lemmas.List.{append-nil}
use Rattle.std.proofs.lemmas.List.FromFn.{length-map-range_with_len}
use Rattle.std.proofs.lemmas.Option.{slice_get_within}
use Rattle.ec_logic.specs.Signature.{Signature}
use Rattle.ec_logic.specs.Universe.{Universe, universe_of}
use Rattle.ec_logic.specs.Atom.{GroundAtom, atom_at, tuples_of, atoms_of, all_atoms, visible_atoms, visible_predicates, predicates_in_order, declared, atoms_before, structure_of}
use Rattle.ec_logic.specs.Narrative.{atom_line, atom_text, line, line_if}
use Rattle.ec_logic.specs.Valid.{IsSignature}
use Rattle.ec_logic.proofs.Extents.{arguments_length}
use Rattle.ec_logic.proofs.FewAtoms.{six_predicates}
use Rattle.ec_logic.proofs.MarkedBits.{structure_at}
use Rattle.ec_atom.proofs.AtomLaws.{visible_numbered}

pub on_ok_map : {X E : Type 0} (r : Result X E) (P Q : Type 0) → OnOk r P → (P → Q) → OnOk r Q
on_ok_map (Ok x) P Q h f = f h
on_ok_map (Err e) P Q h f = tt

-- the list from a place on, one item less
pub drop_item : (xs : List GroundAtom) (k : ℕ) (x : GroundAtom) → slice_get xs k ≡ Some x → drop k xs ≡ x ∷ drop (k + 1) xs
drop_item [] k x h = cc
drop_item (y ∷ xs) zero x h = let e : y ≡ x = cc in rw e refl
drop_item (y ∷ xs) (suc k) x h = let z : suc k + 1 ≡ suc (k + 1) = omega arith in rw z (drop_item xs k x h)

pub item_at : (xs : List GroundAtom) (k : ℕ) → k < length xs → (x : GroundAtom) × (slice_get xs k ≡ Some x)
item_at [] k h = absurd (omega (arith, h))
item_at (x ∷ xs) zero h = (x, refl)
item_at (x ∷ xs) (suc k) h = item_at xs k (omega (arith, h))

pub drop_all : (xs : List GroundAtom) (k : ℕ) → length xs ≤ k → drop k xs ≡ []
drop_all [] zero h = refl
drop_all [] (suc k) h = refl
drop_all (x ∷ xs) zero h = absurd (omega (arith, h))
drop_all (x ∷ xs) (suc k) h = drop_all xs k (omega (arith, h))

drop_front : (xs ys : List GroundAtom) (n k : ℕ) → length xs ≡ n → drop (n + k) (xs ++ ys) ≡ drop k ys
drop_front [] ys zero k e = let z : 0 + k ≡ k = omega arith in rw z refl
drop_front [] ys (suc n) k e = absurd (omega (arith, e))
drop_front (x ∷ xs) ys zero k e = absurd (omega (arith, e))
drop_front (x ∷ xs) ys (suc n) k e = let z : suc n + k ≡ suc (n + k) = omega arith in rw z (drop_front xs ys n k (omega (arith, e)))

in_front : (xs ys : List GroundAtom) (k : ℕ) → k < length xs → slice_get (xs ++ ys) k ≡ slice_get xs k
in_front [] ys k h = absurd (omega (arith, h))
in_front (x ∷ xs) ys zero h = refl
in_front (x ∷ xs) ys (suc k) h = in_front xs ys k (omega (arith, h))

some_same : (x y : GroundAtom) → Some x ≡ Some y → x ≡ y
some_same x y e = cc

module _ (universe : Universe) where
  own_count : (p : ℕ) → length (atoms_of universe p) ≡ tuples_of universe p
  own_count p = length-map-range_with_len (atom_at universe p) 0 (tuples_of universe p)

  abbrev rest : List GroundAtom
  rest = flat_map (atoms_of universe) (declared universe)

  behind : drop (tuples_of universe 0 + (tuples_of universe 1 + (tuples_of universe 2 + 0))) (visible_atoms universe) ≡ rest
  behind =
      drop_front (atoms_of universe 0) (atoms_of universe 1 ++ (atoms_of universe 2 ++ rest)) (tuples_of universe 0) (tuples_of universe 1 + (tuples_of universe 2 + 0)) (own_count 0)
      ∙ (drop_front (atoms_of universe 1) (atoms_of universe 2 ++ rest) (tuples_of universe 1) (tuples_of universe 2 + 0) (own_count 1)
      ∙ drop_front (atoms_of universe 2) rest (tuples_of universe 2) 0 (own_count 2))

  -- the atoms behind those of the first built-in predicates are those of the declared ones
  pub from_declared : (k n : ℕ) → length universe.predicates - 6 ≡ suc k → n ≡ atoms_before universe (predicates_in_order universe) 6 → drop n (visible_atoms universe) ≡ rest
  from_declared k n e h =
      let first : atoms_before universe (predicates_in_order universe) 6 ≡ tuples_of universe 0 + (tuples_of universe 1 + (tuples_of universe 2 + 0)) = rw e refl in
      ap (λ m. drop m (visible_atoms universe)) (h ∙ first) ∙ behind

  pub none_declared : (n : ℕ) → length universe.predicates - 6 ≡ 0 → n ≡ length (visible_atoms universe) → drop n (visible_atoms universe) ≡ rest
  none_declared n e h =
      let none : rest ≡ [] = rw e refl in
      drop_all (visible_atoms universe) n (omega (arith, h)) ∙ sym none

  pub visible_within_all : (k : ℕ) → k < length (visible_atoms universe) → slice_get (all_atoms universe) k ≡ slice_get (visible_atoms universe) k
  visible_within_all k h =
      let parts : all_atoms universe ≡ visible_atoms universe ++ flat_map (atoms_of universe) (3 ∷ 4 ∷ 5 ∷ []) = flat_map-append (atoms_of universe) (visible_predicates universe) (3 ∷ 4 ∷ 5 ∷ []) in
      ap (λ xs. slice_get xs k) parts ∙ in_front (visible_atoms universe) (flat_map (atoms_of universe) (3 ∷ 4 ∷ 5 ∷ [])) k h

  pub below_all : (k : ℕ) → k < length (visible_atoms universe) → k < length (all_atoms universe)
  below_all k h = let x = item_at (visible_atoms universe) k h in slice_get_within (all_atoms universe) k x.0 (visible_within_all k h ∙ x.1)

  -- the visible atom with a number is the one that stands there in all
  pub same_atom : (k : ℕ) (a atom : GroundAtom) → k < length (visible_atoms universe) → slice_get (all_atoms universe) k ≡ Some a → slice_get (visible_atoms universe) k ≡ Some atom → a ≡ atom
  same_atom k a atom h e f = some_same a atom (sym e ∙ (visible_within_all k h ∙ f))

pub end_line : (o t : List ℕ) → o ++ t ++ codes ".\n" ≡ o ++ line (t ++ codes ".")
end_line o t = append_assoc o t (codes ".\n") ∙ ap (λ x. o ++ x) (sym (append_assoc t (codes ".") (10 ∷ [])))

module _ (signature : Signature) (valid : IsSignature signature) (truths : List Bool) (k : ℕ) (atom : GroundAtom) (at : slice_get (visible_atoms (universe_of signature)) k ≡ Some atom) where
  truth_at : structure_of (universe_of signature) truths atom.predicate atom.args ≡ unwrap_or (slice_get truths k) false
  truth_at = structure_at (universe_of signature) truths atom.predicate atom.args k (visible_numbered (universe_of signature) (six_predicates signature valid) k atom at)

  pub line_is : (b : Bool) → b ≡ unwrap_or (slice_get truths k) false → atom_line signature (structure_of (universe_of signature) truths) atom ≡ line_if b (atom_text signature atom ++ codes ".")
  line_is b e = ap (λ c. line_if c (atom_text signature atom ++ codes ".")) (truth_at ∙ sym e)

pub count_same : (signature : Signature) → length (universe_of signature).predicates ≡ length signature.predicates
count_same signature = arguments_length signature.predicates

module _ (F : GroundAtom → List ℕ) (atoms : List GroundAtom) (k : ℕ) where
  pub next_atom : (atom : GroundAtom) (out next all : List ℕ) → slice_get atoms k ≡ Some atom → out ++ flat_map F (drop k atoms) ≡ all → next ≡ out ++ F atom → next ++ flat_map F (drop (k + 1) atoms) ≡ all
  next_atom atom out next all at left more =
      let split : flat_map F (drop k atoms) ≡ F atom ++ flat_map F (drop (k + 1) atoms) = ap (flat_map F) (drop_item atoms k atom at) in
      ap (λ x. x ++ flat_map F (drop (k + 1) atoms)) more ∙ (append_assoc out (F atom) (flat_map F (drop (k + 1) atoms)) ∙ (ap (λ x. out ++ x) (sym split) ∙ left))

  pub last_atom : (out all : List ℕ) → length atoms ≤ k → out ++ flat_map F (drop k atoms) ≡ all → out ≡ all
  last_atom out all h left =
      let none : flat_map F (drop k atoms) ≡ [] = ap (flat_map F) (drop_all atoms k h) in
      sym (append-nil out) ∙ (ap (λ x. out ++ x) (sym none) ∙ left)
