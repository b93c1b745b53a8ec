-- The steps of trying all truths.
use Rattle.std.proofs.Common.{◌≡◌, ℕ, zero, suc, ◌+◌, ◌-◌, ◌<◌, ◌≤◌, ◌^◌, Bool, true, false, List, [], ◌∷◌, ◌++◌, take, set, length, replicate, slice_get, Some, Result, Ok, Err, refl, sym, ap, subst, arith, ◌∙◌}
use Rattle.std.specs.Prelude.{OnOk}
use Rattle.std.specs.List.{flat_map}
use Rattle.std.proofs.lemmas.Grind.{flat_map-append}
use Rattle.std.proofs.lemmas.List.{length-append, take_all, take_more_set, take-set}
use Rattle.ec_logic.specs.Signature.{Signature}
use Rattle.ec_logic.specs.Universe.{Universe, universe_of}
use Rattle.ec_logic.specs.Atom.{atoms_of, visible_predicates, visible_atoms, all_atoms}
use Rattle.ec_logic.specs.Theory.{Theory}
use Rattle.ec_logic.specs.Listing.{AreTruths}
use Rattle.ec_models.specs.Tried.{extended, AreTried}
use Rattle.ec_models.proofs.Finding.{tried_one, tried_both, found_of_all, truths_are, few_found}
use Rattle.ec_models.proofs.VisibleParts.{effects}

pub on_ok_map : {X Y P Q : Type 0} (r : Result X Y) → OnOk r P → (P → Q) → OnOk r Q
on_ok_map (Ok x) h f = f h
on_ok_map (Err e) h f = tt

-- the visible atoms are of the signature of the theory
pub count_moved : (a b : Signature) (n : ℕ) → a ≡ b → n ≡ length (visible_atoms (universe_of a)) → n ≡ length (visible_atoms (universe_of b))
count_moved a b n e h = let P : Signature → Type 0 = λ s. n ≡ length (visible_atoms (universe_of s)) in subst P e h

pub size_moved : (a b : Signature) (bits : List Bool) → a ≡ b → bits ≡ replicate (length (all_atoms (universe_of a))) false → bits ≡ replicate (length (all_atoms (universe_of b))) false
size_moved a b bits e h = let P : Signature → Type 0 = λ s. bits ≡ replicate (length (all_atoms (universe_of s))) false in subst P e h

pub visible_within : (universe : Universe) → length (visible_atoms universe) ≤ length (all_atoms universe)
visible_within universe =
    let parts : all_atoms universe ≡ visible_atoms universe ++ flat_map (atoms_of universe) effects = flat_map-append (atoms_of universe) (visible_predicates universe) effects in
    let count = ap length parts ∙ length-append (visible_atoms universe) (flat_map (atoms_of universe) effects) in
    omega (arith, count)

take_take : (n : ℕ) (xs : List Bool) → take n (take (n + 1) xs) ≡ take n xs
take_take zero xs = refl
take_take (suc n) [] = let s : suc n + 1 ≡ suc (n + 1) = omega arith in rw s refl
take_take (suc n) (x ∷ xs) = let s : suc n + 1 ≡ suc (n + 1) = omega arith in rw s (ap (λ ys. x ∷ ys) (take_take n xs))

take_next : (bits : List Bool) (k : ℕ) (b : Bool) → slice_get bits k ≡ Some b → take (k + 1) bits ≡ take k bits ++ b ∷ []
take_next [] k b h = cc
take_next (x ∷ bits) zero b h = let same : x ≡ b = cc in rw same refl
take_next (x ∷ bits) (suc k) b h = let s : suc k + 1 ≡ suc (k + 1) = omega arith in rw s (ap (λ ys. x ∷ ys) (take_next bits k b h))

-- one truth more is copied
pub front_copied : (row bits : List Bool) (k : ℕ) (b : Bool) → k < length row → slice_get bits k ≡ Some b → take k row ≡ take k bits → take (k + 1) (set row k b) ≡ take (k + 1) bits
front_copied row bits k b low there same = take_more_set row k b low ∙ (ap (λ xs. xs ++ b ∷ []) same ∙ sym (take_next bits k b there))

-- all truths that are wanted are copied
pub all_copied : (row bits : List Bool) (k count visible : ℕ) → length row ≡ count → k ≡ count → count ≡ visible → take k row ≡ take k bits → row ≡ take visible bits
all_copied row bits k count visible size last is same =
    let whole : take k row ≡ row = take_all k row (omega (arith, size, last)) in
    sym whole ∙ (same ∙ ap (λ n. take n bits) (last ∙ is))

pub front_same : (n : ℕ) (xs ys : List Bool) → take (n + 1) xs ≡ take (n + 1) ys → take n xs ≡ take n ys
front_same n xs ys h = sym (take_take n xs) ∙ (ap (take n) h ∙ take_take n ys)

module _ (theory : Theory) where
  pub at_leaf : (atom visible : ℕ) (bits : List Bool) (old new : List (List Bool)) → atom ≡ visible → AreTried theory (take visible bits ∷ []) old new → AreTried theory (extended (take atom bits) (visible - atom)) old new
  at_leaf atom visible bits old new e h =
      let none : visible - atom ≡ 0 = omega (arith, e) in
      rw (none, e) (tried_one theory (take visible bits) old new h)

  -- the atom false, then the atom true
  module _ (atom visible : ℕ) (bits no first yes : List Bool) (is-no : no ≡ set bits atom false) (is-yes : yes ≡ set first atom true) (same : take (atom + 1) first ≡ take (atom + 1) no) where
    front_first : take atom first ≡ take atom bits
    front_first = front_same atom first no same ∙ (ap (take atom) is-no ∙ take-set bits atom false)

    pub front_kept : (last : List Bool) → take (atom + 1) last ≡ take (atom + 1) yes → take atom last ≡ take atom bits
    front_kept last h = front_same atom last yes h ∙ (ap (take atom) is-yes ∙ (take-set first atom true ∙ front_first))

    pub at_branch : (old middle new : List (List Bool)) → atom < visible → visible ≤ length bits → length first ≡ length bits
        → AreTried theory (extended (take (atom + 1) no) (visible - (atom + 1))) old middle → AreTried theory (extended (take (atom + 1) yes) (visible - (atom + 1))) middle new
        → AreTried theory (extended (take atom bits) (visible - atom)) old new
    at_branch old middle new below within size a b =
        let left : visible - atom ≡ suc (visible - (atom + 1)) = omega (arith, below) in
        let low : atom < length bits = omega (arith, below, within) in
        let low-first : atom < length first = omega (arith, low, size) in
        let front-no : take (atom + 1) no ≡ take atom bits ++ false ∷ [] = ap (take (atom + 1)) is-no ∙ take_more_set bits atom false low in
        let front-yes : take (atom + 1) yes ≡ take atom bits ++ true ∷ [] = ap (take (atom + 1)) is-yes ∙ (take_more_set first atom true low-first ∙ ap (λ xs. xs ++ true ∷ []) front_first) in
        let P : List Bool → Type 0 = λ xs. AreTried theory (extended xs (visible - (atom + 1))) old middle in
        let Q : List Bool → Type 0 = λ xs. AreTried theory (extended xs (visible - (atom + 1))) middle new in
        rw left (tried_both theory (take atom bits) (visible - (atom + 1)) old middle new (subst P front-no a) (subst Q front-yes b))

  pub all_found : (bits : List Bool) (old new : List (List Bool)) → old ≡ [] → AreTried theory (extended (take 0 bits) (length (visible_atoms (universe_of theory.signature)) - 0)) old new → AreTruths theory new
  all_found bits old new e h = truths_are theory new (found_of_all theory (length (visible_atoms (universe_of theory.signature))) new (from bits old new e h))
    where
      from : (bits : List Bool) (old new : List (List Bool)) → old ≡ [] → AreTried theory (extended (take 0 bits) (length (visible_atoms (universe_of theory.signature)) - 0)) old new → AreTried theory (extended [] (length (visible_atoms (universe_of theory.signature)))) [] new
      from bits old new e h =
          let z : length (visible_atoms (universe_of theory.signature)) - 0 ≡ length (visible_atoms (universe_of theory.signature)) = omega arith in
          rw (z, e) at h

  pub few_found_in_all : (bits : List Bool) (old new : List (List Bool)) → length (visible_atoms (universe_of theory.signature)) ≤ 16 → old ≡ [] → AreTried theory (extended (take 0 bits) (length (visible_atoms (universe_of theory.signature)) - 0)) old new → length new ≤ 2 ^ 16
  few_found_in_all bits old new small e h =
      let n = length (visible_atoms (universe_of theory.signature)) in
      let z : n - 0 ≡ n = omega arith in
      few_found theory n new small (found_of_all theory n new (rw (z, e) at h))
