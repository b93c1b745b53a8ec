-- What is said of each tree of a list is said of the tree of each item.
use Rattle.std.proofs.Common.{◌≡◌, ◌≤◌, ◌<◌, ◌+◌, ℕ, zero, suc, List, [], ◌∷◌, ◌++◌, length, get_or, map, drop, All, refl, ap, sym, subst, ◌∙◌, arith, add-one, append_assoc}
use Rattle.std.proofs.Math.Seq.{drop-cons}
use Rattle.std.proofs.lemmas.List.{append-nil, get_or-map, length-map}
use Rattle.std.proofs.lemmas.List.Elements.{All-nil, All-cons}
use Rattle.ec_logic.specs.Tree.{Formula}
use Rattle.ec_logic.specs.TreeList.{formulas_of}
use Rattle.ec_logic.specs.Reach.{nesting, nesting_of}

pub of_item : {X Y : Type 0} (P : Y → Type 0) (view : X → Y) (xs : List X) (k : ℕ) (x : X) → All P (map view xs) → x ≡ get_or xs k x → k < length xs → P (view x)
of_item P view xs k x h is within =
    let count = length-map xs view in
    subst P (get_or-map view xs k x (view x) within ∙ ap view (sym is)) (h k (view x) (omega (arith, count, within)))

-- room for all is room for each
pub each_nested : (room : ℕ) (fs : List Formula) → nesting_of (formulas_of fs) ≤ room → All (λ f. nesting f ≤ room) fs
each_nested room [] h = All-nil (λ f. nesting f ≤ room)
each_nested room (f ∷ fs) h = All-cons (λ g. nesting g ≤ room) f fs (omega (arith, h)) (each_nested room fs (omega (arith, h)))

-- ---- what is made of the items so far, before what is made of those left

next_item : {X : Type 0} (xs : List X) (k : ℕ) (x : X) → k < length xs → x ≡ get_or xs k x → drop k xs ≡ x ∷ drop (k + 1) xs
next_item xs k x within is = rw (add-one k) (drop-cons xs k x within ∙ ap (λ y. y ∷ drop (suc k) xs) (sym is))

past_end : {X : Type 0} (xs : List X) (k : ℕ) → length xs ≤ k → drop k xs ≡ []
past_end [] zero ended = refl
past_end [] (suc k) ended = refl
past_end (x ∷ xs) zero ended = absurd (omega (arith, ended))
past_end (x ∷ xs) (suc k) ended = past_end xs k (omega (arith, ended))

module _ {X Y : Type 0} (view : X → Y) (views : List X → List Y) where
  pub one_made : (each : (x : X) (xs : List X) → views (x ∷ xs) ≡ view x ∷ views xs) (xs : List X) (k : ℕ) (x : X) (made next all : List Y) → k < length xs → x ≡ get_or xs k x → next ≡ made ++ view x ∷ [] → made ++ views (drop k xs) ≡ all → next ++ views (drop (k + 1) xs) ≡ all
  one_made each xs k x made next all within is step before =
      ap (λ ys. ys ++ views (drop (k + 1) xs)) step
      ∙ (append_assoc made (view x ∷ []) (views (drop (k + 1) xs))
      ∙ (ap (λ ys. made ++ ys) (sym (ap views (next_item xs k x within is) ∙ each x (drop (k + 1) xs))) ∙ before))

  pub all_made : views [] ≡ [] → (xs : List X) (k : ℕ) (made all : List Y) → length xs ≤ k → made ++ views (drop k xs) ≡ all → made ≡ all
  all_made none xs k made all ended before = sym (append-nil made) ∙ (ap (λ ys. made ++ ys) (sym (ap views (past_end xs k ended) ∙ none)) ∙ before)
