-- The atoms of a theory: which have a variable, and what is visible of a structure.
use Rattle.std.proofs.Common.{◌≡◌, ℕ, zero, suc, ◌+◌, ◌-◌, ◌<◌, ◌≤◌, Bool, true, false, List, [], ◌∷◌, ◌++◌, length, map, ℤ, All, Contains, Option, Some, None, option_map, slice_get, refl, ap, sym, subst, ◌∙◌, arith}
use Rattle.std.specs.List.{flat_map, range_with_len}
use Rattle.std.proofs.lemmas.Bool.Decides.{nat_tests}
use Rattle.std.proofs.lemmas.Grind.{flat_map-append}
use Rattle.std.proofs.lemmas.List.Elements.{All-nil, All-cons, All-head, All-tail, All-append, All-map, All-weaker, Contains-get_or}
use Rattle.std.proofs.lemmas.Option.{slice_get_within, get_or_from_slice_get}
use Rattle.ec_logic.specs.Universe.{Universe, universe_of, row_of, tuple_rank}
use Rattle.ec_logic.specs.Signature.{built_in, holds_at, released_at, happens, initiates, terminates, releases}
use Rattle.ec_logic.specs.Truth.{Structure, IsStructure, IsTuple}
use Rattle.ec_logic.specs.Atom.{GroundAtom, atom_at, atoms_of, visible_atoms, all_atoms, number_of, atoms_before, predicates_in_order, visible_predicates, declared, tuples_of, visible_truth}
use Rattle.ec_logic.specs.Theory.{Theory}
use Rattle.ec_logic.specs.ValidTheory.{IsValidTheory, effect_predicates}
use Rattle.ec_logic.proofs.Tests.{test_cases}
use Rattle.ec_logic.proofs.Extents.{arguments_length}
use Rattle.ec_logic.proofs.FewAtoms.{six_predicates}
use Rattle.ec_folding.specs.Tree.{Tree, always, never, literal, all_of, any_of}
use Rattle.ec_grounding.specs.Folded.{Leaf, fixed, numbered}
use Rattle.ec_grounding.specs.Grounded.{leaf_of, is_effect, settled, effect_scope, reading_of, variable_of, variables}
use Rattle.ec_grounding.specs.Models.{HasTruths}
use Rattle.ec_grounding.specs.WellFormed.{AreNumbered, HasVariable, visible_count}
use Rattle.ec_grounding.proofs.AtomsListed.{all_parted, each_atom}
use Rattle.ec_grounding.proofs.Readings.{reading-effect, reading-other}
use Rattle.ec_certificate.specs.Shown.{visible_part}

-- ---- lists

module _ {A : Type 0} where
  -- values that are the same place by place, where the places are numbered from a number on
  map_by_place : (f : A → Bool) (w : ℕ → Bool) (low : ℕ) (xs : List A) → ((k : ℕ) (x : A) → slice_get xs k ≡ Some x → f x ≡ w (low + k)) → map f xs ≡ map w (range_with_len low (length xs))
  map_by_place f w low [] h = refl
  map_by_place f w low (x ∷ xs) h =
      let none_more : low + 0 ≡ low = omega arith in
      let first : f x ≡ w low = h 0 x refl ∙ ap w none_more in
      let rest = map_by_place f w (low + 1) xs (λ k y e. let next : low + suc k ≡ low + 1 + k = omega arith in h (suc k) y e ∙ ap w next) in
      rw (first, rest) refl

  -- two functions that give one list are the same at each item
  map_same : (f g : A → Bool) (xs : List A) → map f xs ≡ map g xs → All (λ x. f x ≡ g x) xs
  map_same f g [] e = All-nil (λ x. f x ≡ g x)
  map_same f g (x ∷ xs) e = let first : f x ≡ g x = cc in let rest : map f xs ≡ map g xs = cc in All-cons (λ y. f y ≡ g y) x xs first (map_same f g xs rest)

  pub all_at : (P : A → Type 0) (xs : List A) → All P xs → (k : ℕ) (x : A) → slice_get xs k ≡ Some x → P x
  all_at P xs h k x e = subst P (get_or_from_slice_get xs k x x e) (h k x (slice_get_within xs k x e))

  all_contained : (xs : List A) → All (Contains xs) xs
  all_contained xs k d l = Contains-get_or xs k d l

  pub all_joined_each : {B : Type 0} (P : A → Type 0) (f : B → List A) (xs : List B) → All (λ x. All P (f x)) xs → All P (flat_map f xs)
  all_joined_each P f [] h = All-nil P
  all_joined_each P f (x ∷ xs) h = All-append P (f x) (flat_map f xs) (All-head (λ y. All P (f y)) x xs h) (all_joined_each P f xs (All-tail (λ y. All P (f y)) x xs h))

  pub in_front : (xs ys : List A) (k : ℕ) (x : A) → slice_get xs k ≡ Some x → slice_get (xs ++ ys) k ≡ Some x
  in_front [] ys k x e = absurd cc
  in_front (y ∷ xs) ys zero x e = e
  in_front (y ∷ xs) ys (suc k) x e = in_front xs ys k x e

-- ---- readings

settled_number : (o : Option ℕ) (t : Option Tree) (k : ℕ) → settled (leaf_of o) t ≡ numbered k → o ≡ Some k
settled_number None t k e = absurd cc
settled_number (Some j) None k e = cc
settled_number (Some j) (Some always) k e = absurd cc
settled_number (Some j) (Some never) k e = absurd cc
settled_number (Some j) (Some (literal a s)) k e = cc
settled_number (Some j) (Some (all_of ts)) k e = cc
settled_number (Some j) (Some (any_of ts)) k e = cc

plain_number : (o : Option ℕ) (k : ℕ) → leaf_of o ≡ numbered k → o ≡ Some k
plain_number None k e = absurd cc
plain_number (Some j) k e = cc

-- a predicate behind the built-in ones is no effect predicate
none_of_declared : (from n : ℕ) → 6 ≤ from → All (λ p. is_effect p ≡ false) (range_with_len from n)
none_of_declared from zero l = All-nil (λ p. is_effect p ≡ false)
none_of_declared from (suc n) l = All-cons (λ p. is_effect p ≡ false) from (range_with_len (from + 1) n) (grind (arith, nat_tests, l)) (none_of_declared (from + 1) n (omega (arith, l)))

range_below : (from n high : ℕ) → from + n ≤ high → All (λ p. p < high) (range_with_len from n)
range_below from zero high l = All-nil (λ p. p < high)
range_below from (suc n) high l = All-cons (λ p. p < high) from (range_with_len (from + 1) n) (omega (arith, l)) (range_below (from + 1) n high (omega (arith, l)))

module _ (theory : Theory) where
  abbrev universe : Universe
  universe = universe_of theory.signature

  -- an atom that is read as a literal has that number
  pub numbered_is : (p k : ℕ) (vs : List ℤ) → reading_of theory p vs ≡ numbered k → number_of universe p vs ≡ Some k
  numbered_is p k vs e = test_cases (number_of universe p vs ≡ Some k) (is_effect p)
      (λ t. settled_number (number_of universe p vs) (effect_scope theory p vs) k (sym (reading-effect theory p vs t) ∙ e))
      (λ t. plain_number (number_of universe p vs) k (sym (reading-other theory p vs t) ∙ e))

  -- what is said of each listed atom is said of each atom with a number
  pub each_numbered : (P : GroundAtom → Type 0) → All P (all_atoms universe) → (p k : ℕ) (vs : List ℤ) → p < length theory.signature.predicates → number_of universe p vs ≡ Some k → P (record { predicate = p; args = vs })
  each_numbered P all p k vs low h = by_rank (tuple_rank universe (row_of universe.predicates p) vs) refl h
    where
      by_rank : (o : Option ℕ) → tuple_rank universe (row_of universe.predicates p) vs ≡ o → option_map (λ j. atoms_before universe (predicates_in_order universe) p + j) o ≡ Some k → P (record { predicate = p; args = vs })
      by_rank None r g = absurd cc
      by_rank (Some j) r g = each_atom universe P all p vs j (omega (arith, low, arguments_length theory.signature.predicates)) r

  abbrev pub variable_at : GroundAtom → List ℕ
  variable_at atom = variable_of (reading_of theory atom.predicate atom.args)

  -- an atom that is read as a literal has its variable
  pub has_variable : (p k : ℕ) (vs : List ℤ) → p < length theory.signature.predicates → reading_of theory p vs ≡ numbered k → HasVariable theory k
  has_variable p k vs low e =
      let each = all_parted (HasVariable theory) variable_at (all_atoms universe) (all_contained (variables theory)) in
      let here = each_numbered (λ atom. All (HasVariable theory) (variable_at atom)) each p k vs low (numbered_is p k vs e) in
      let A : Leaf → Type 0 = λ leaf. All (HasVariable theory) (variable_of leaf) in
      All-head (HasVariable theory) k [] (subst A e here)

  pub of_variable : (P : ℕ → Type 0) (leaf : Leaf) → ((k : ℕ) → leaf ≡ numbered k → P k) → All P (variable_of leaf)
  of_variable P (fixed b) go = All-nil P
  of_variable P (numbered k) go = All-cons P k [] (go k refl) (All-nil P)

  -- ---- the atoms in order

  abbrev pub effect_atoms : List GroundAtom
  effect_atoms = flat_map (atoms_of universe) effect_predicates

  pub parts : all_atoms universe ≡ visible_atoms universe ++ effect_atoms
  parts = flat_map-append (atoms_of universe) (visible_predicates universe) effect_predicates

  -- what is said of each of some predicates is said of the predicate of each of their atoms
  of_predicates : (P : ℕ → Type 0) (qs : List ℕ) → All P qs → All (λ (atom : GroundAtom). P atom.predicate) (flat_map (atoms_of universe) qs)
  of_predicates P qs h = all_joined_each (λ (atom : GroundAtom). P atom.predicate) (atoms_of universe) qs
      (All-weaker P (λ q. All (λ (atom : GroundAtom). P atom.predicate) (atoms_of universe q))
      (λ q here. All-map (λ (atom : GroundAtom). P atom.predicate) (atom_at universe q) (range_with_len 0 (tuples_of universe q)) (λ k d l. here)) qs h)

  pub visible_others : All (λ (atom : GroundAtom). is_effect atom.predicate ≡ false) (visible_atoms universe)
  visible_others =
      let P : ℕ → Type 0 = λ p. is_effect p ≡ false in
      of_predicates P (visible_predicates universe)
      (All-cons P holds_at (released_at ∷ happens ∷ declared universe) refl
      (All-cons P released_at (happens ∷ declared universe) refl
      (All-cons P happens (declared universe) refl (none_of_declared built_in (length universe.predicates - built_in) (omega arith)))))

  pub effects_are : All (λ (atom : GroundAtom). is_effect atom.predicate ≡ true) effect_atoms
  effects_are =
      let P : ℕ → Type 0 = λ p. is_effect p ≡ true in
      of_predicates P effect_predicates (All-cons P initiates (terminates ∷ releases ∷ []) refl (All-cons P terminates (releases ∷ []) refl (All-cons P releases [] refl (All-nil P))))

  -- each listed atom is of a predicate of the signature
  pub all_known : IsValidTheory theory → All (λ (atom : GroundAtom). atom.predicate < length theory.signature.predicates) (all_atoms universe)
  all_known valid =
      let six : 6 ≤ length theory.signature.predicates = omega (arith, six_predicates theory.signature valid.signature, arguments_length theory.signature.predicates) in
      let P : ℕ → Type 0 = λ p. p < length theory.signature.predicates in
      let middle = range_below built_in (length universe.predicates - built_in) (length theory.signature.predicates) (omega (arith, six, arguments_length theory.signature.predicates)) in
      let visible = All-cons P holds_at (released_at ∷ happens ∷ declared universe) (omega (arith, six))
      (All-cons P released_at (happens ∷ declared universe) (omega (arith, six))
      (All-cons P happens (declared universe) (omega (arith, six)) middle)) in
      let effects = All-cons P initiates (terminates ∷ releases ∷ []) (omega (arith, six)) (All-cons P terminates (releases ∷ []) (omega (arith, six)) (All-cons P releases [] (omega (arith, six)) (All-nil P))) in
      of_predicates P (predicates_in_order universe) (All-append P (visible_predicates universe) effect_predicates visible effects)

  -- what is said of each atom that is read as a literal is said of each that has a variable
  pub each_variable : IsValidTheory theory → (P : ℕ → Type 0) → ((p k : ℕ) (vs : List ℤ) → p < length theory.signature.predicates → reading_of theory p vs ≡ numbered k → P k) → (a : ℕ) → HasVariable theory a → P a
  each_variable valid P go a there =
      let each = All-weaker (λ (atom : GroundAtom). atom.predicate < length theory.signature.predicates) (λ atom. All P (variable_at atom))
      (λ atom known. of_variable P (reading_of theory atom.predicate atom.args) (λ k e. go atom.predicate k atom.args known e)) (all_atoms universe) (all_known valid) in
      subst P there.2 (all_joined_each P variable_at (all_atoms universe) each there.0 a there.1)

  -- ---- the visible atoms

  module _ (m n : Structure) where
    -- an atom is the same in both, unless it is of an effect predicate
    abbrev Same : GroundAtom → Type 0
    Same atom = is_effect atom.predicate ≡ false → m atom.predicate atom.args ≡ n atom.predicate atom.args

    all_same : visible_truth universe m ≡ visible_truth universe n → All Same (all_atoms universe)
    all_same e =
        let front = All-weaker (λ (atom : GroundAtom). m atom.predicate atom.args ≡ n atom.predicate atom.args) Same (λ atom h g. h) (visible_atoms universe)
        (map_same (λ (atom : GroundAtom). m atom.predicate atom.args) (λ (atom : GroundAtom). n atom.predicate atom.args) (visible_atoms universe) e) in
        let behind = All-weaker (λ (atom : GroundAtom). is_effect atom.predicate ≡ true) Same (λ atom h g. absurd cc) effect_atoms effects_are in
        subst (All Same) (sym parts) (All-append Same (visible_atoms universe) effect_atoms front behind)

    -- structures with one visible truth are the same outside the effect predicates
    pub visible_same : IsStructure universe m → IsStructure universe n → visible_truth universe m ≡ visible_truth universe n → (p : ℕ) (vs : List ℤ) → is_effect p ≡ false → m p vs ≡ n p vs
    visible_same is-m is-n e p vs other = test_cases (m p vs ≡ n p vs) (m p vs)
        (λ t. at_tuple (is-m p vs t))
        (λ f. test_cases (m p vs ≡ n p vs) (n p vs) (λ t. at_tuple (is-n p vs t)) (λ g. f ∙ sym g))
      where
        at_tuple : IsTuple universe p vs → m p vs ≡ n p vs
        at_tuple there = each_atom universe Same (all_same e) p vs there.1.0 there.0 there.1.1 other

  -- where the visible atoms have the variables from 1 on, their truths are the visible part of a truth of the variables
  pub visible_truth_is : IsValidTheory theory → AreNumbered universe → (m : Structure) (at : ℕ → ℕ) (w : ℕ → Bool) → HasTruths theory m (λ a. w (at a)) → ((a : ℕ) → a < visible_count theory → at a ≡ a + 1)
      → visible_truth universe m ≡ visible_part (visible_count theory) w
  visible_truth_is valid places m at w truths first = map_by_place (λ (atom : GroundAtom). m atom.predicate atom.args) w 1 (visible_atoms universe) here
    where
      here : (k : ℕ) (atom : GroundAtom) → slice_get (visible_atoms universe) k ≡ Some atom → m atom.predicate atom.args ≡ w (1 + k)
      here k atom e =
          let listed = ap (λ xs. slice_get xs k) parts ∙ in_front (visible_atoms universe) effect_atoms k atom e in
          let number = places k atom listed in
          let other = all_at (λ (x : GroundAtom). is_effect x.predicate ≡ false) (visible_atoms universe) visible_others k atom e in
          let read : reading_of theory atom.predicate atom.args ≡ numbered k = reading-other theory atom.predicate atom.args other ∙ ap leaf_of number in
          let known = all_at (λ (x : GroundAtom). x.predicate < length theory.signature.predicates) (all_atoms universe) (all_known valid) k atom listed in
          let within = slice_get_within (visible_atoms universe) k atom e in
          let place : at k ≡ 1 + k = first k within ∙ omega arith in
          sym (truths atom.predicate k atom.args known read) ∙ ap w place
