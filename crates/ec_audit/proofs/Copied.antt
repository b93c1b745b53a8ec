-- A structure that has the truths of the visible atoms, and no other atom.
use Rattle.std.proofs.Common.{◌≡◌, ◌≢◌, ℕ, ◌+◌, ◌<◌, ◌≤◌, Bool, false, List, length, get_or, set, replicate, take, ℤ, Option, Some, None, refl, sym, ◌∙◌, arith}
use Rattle.std.proofs.Math.Path.{fun_ext}
use Rattle.std.proofs.Math.Dec.{ltb}
use Rattle.std.proofs.lemmas.Bool.{ltb-true, ltb-false}
use Rattle.std.proofs.lemmas.List.{ext_get_or, get_or-take, length-take-le, get_or-set_same, get_or-set_other, get_or-replicate, get_or_past, length-replicate, length-set}
use Rattle.ec_logic.proofs.Tests.{test_cases}
use Rattle.std.proofs.lemmas.Option.{unwrap_or-slice_get}
use Rattle.ec_logic.specs.Universe.{Universe}
use Rattle.ec_logic.specs.Atom.{number_of, structure_of}

-- a number is below another, or isn't
by_order : (C : Type 0) (a b : ℕ) → (a < b → C) → (b ≤ a → C) → C
by_order C a b below past = test_cases C (ltb a b) (λ e. below (ltb-true a b e)) (λ e. past (ltb-false a b e))

-- the first places have the values of a truth, and no other place is true
pub record IsCopied (truth : List Bool) (size done : ℕ) (row : List Bool) : Type 0 where
  pub whole : length row ≡ size
  pub copied : (k : ℕ) → k < done → get_or row k false ≡ get_or truth k false
  pub others : (k : ℕ) → done ≤ k → get_or row k false ≡ false

pub none_copied : (truth : List Bool) (size : ℕ) → IsCopied truth size 0 (replicate size false)
none_copied truth size = record {
  whole = length-replicate size false;
  copied = λ k lt. absurd (let no : k < 0 → ⊥ = omega arith in no lt);
  others = λ k le. none_in size k;
}
  where
    none_in : (size k : ℕ) → get_or (replicate size false) k false ≡ false
    none_in size k = let C : Type 0 = get_or (replicate size false) k false ≡ false in by_order C k size (λ lt. get_or-replicate size k false false lt)
        (λ le. let past : length (replicate size false) ≤ k = rw (length-replicate size false) le in get_or_past (replicate size false) k false past)

-- one more place is copied
pub one_copied : (truth row : List Bool) (size done : ℕ) (b : Bool) → done < size → get_or truth done false ≡ b → IsCopied truth size done row → IsCopied truth size (done + 1) (set row done b)
one_copied truth row size done b lt is h = record {
  whole = length-set row done b ∙ h.whole;
  copied = λ k below. by_order (get_or (set row done b) k false ≡ get_or truth k false) k done
      (λ before. let other : k ≢ done = λ e. omega (arith, before, e) in get_or-set_other row done k b false other ∙ h.copied k before)
      (λ le. let same : k ≡ done = omega (arith, le, below) in
      let there : done < length row = rw h.whole lt in
      rw same (get_or-set_same row done b false there ∙ sym is));
  others = λ k le. let other : k ≢ done = λ e. omega (arith, le, e) in
      let past : done ≤ k = omega (arith, le) in
      get_or-set_other row done k b false other ∙ h.others k past;
}

-- once all places of the truth are copied
pub all_copied : (truth row : List Bool) (size : ℕ) → IsCopied truth size (length truth) row → (k : ℕ) → get_or row k false ≡ get_or truth k false
all_copied truth row size h k = by_order (get_or row k false ≡ get_or truth k false) k (length truth) (h.copied k) (λ le. h.others k le ∙ sym (get_or_past truth k false le))

-- ---- structures

module _ (universe : Universe) (a b : List Bool) (same : (k : ℕ) → get_or a k false ≡ get_or b k false) where
  told_same : (o : Option ℕ) (p : ℕ) (vs : List ℤ) → number_of universe p vs ≡ o → structure_of universe a p vs ≡ structure_of universe b p vs
  told_same None p vs e = rw e refl
  told_same (Some k) p vs e = rw e (unwrap_or-slice_get a k false ∙ (same k ∙ sym (unwrap_or-slice_get b k false)))

  pub structures_same : structure_of universe a ≡ structure_of universe b
  structures_same = fun_ext (λ p. fun_ext (λ vs. told_same (number_of universe p vs) p vs refl))

-- a front of the row is the truth, where it has the truth's length
pub front_same : (truth row : List Bool) (n : ℕ) → length truth ≡ n → n ≤ length row → ((k : ℕ) → get_or row k false ≡ get_or truth k false) → take n row ≡ truth
front_same truth row n size le same =
    let short : length (take n row) ≡ n = length-take-le n row le in
    ext_get_or false (take n row) truth (short ∙ sym size) (λ k lt.
    let below : k < n = omega (arith, lt, short) in
    get_or-take n row k false below ∙ same k)
