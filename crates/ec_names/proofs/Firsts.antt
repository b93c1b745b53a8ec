-- Items kept one after another are the first of each name.
use Rattle.std.proofs.Common.{◌≡◌, ◌≤◌, ◌<◌, ℕ, ◌+◌, Bool, true, false, List, [], ◌∷◌, ◌++◌, map, drop, length, slice_index_or, refl, sym, ap, ◌∙◌, if◌then◌else◌, append-nil, append_assoc, length-append, add-one, arith}
use Rattle.std.proofs.Math.Seq.{drop-cons}
use Rattle.std.proofs.lemmas.List.{map-append}
use Rattle.ec_syntax.specs.Written as w
use Rattle.ec_syntax.specs.View.{content_of, placed_of}
use Rattle.ec_syntax.specs.declared.book.Placed.{Placed}
use Rattle.ec_names.specs.Names.{is_among, firsts_after, joined}
use Rattle.ec_names.specs.View.{with_first, continued}

module _ {X : Type 0} (name : X → List ℕ) where
  step_by : (b : Bool) (kept : List X) (x : X) (xs : List X) → continued name (if b then kept else kept ++ x ∷ []) xs ≡ kept ++ (if b then firsts_after name (map name kept) xs else x ∷ firsts_after name (map name kept ++ name x ∷ []) xs)
  step_by true kept x xs = refl
  step_by false kept x xs = rw (map-append name kept (x ∷ []), append_assoc kept (x ∷ []) (firsts_after name (map name kept ++ name x ∷ []) xs)) refl

  -- one more item
  pub continued-step : (kept : List X) (x : X) (xs : List X) → continued name (with_first name kept x) xs ≡ continued name kept (x ∷ xs)
  continued-step kept x xs = step_by (is_among (name x) (map name kept)) kept x xs

  pub continued-nil : (kept : List X) → continued name kept [] ≡ kept
  continued-nil kept = append-nil kept

  -- the items of one list, and then those of another
  pub continued-append : (kept xs ys : List X) → continued name (continued name kept xs) ys ≡ continued name kept (xs ++ ys)
  continued-append kept [] ys = ap (λ ks. continued name ks ys) (append-nil kept)
  continued-append kept (x ∷ xs) ys =
      ap (λ ks. continued name ks ys) (sym (continued-step kept x xs)) ∙ continued-append (with_first name kept x) xs ys ∙ continued-step kept x (xs ++ ys)

  -- ---- loops

  pub next-item : {A : Type 0} (f : A → X) (kept new total : List X) (xs : List A) (i : ℕ) (x : A) → i < length xs → x ≡ slice_index_or xs i x → new ≡ with_first name kept (f x)
      → continued name kept (map f (drop i xs)) ≡ total → continued name new (map f (drop (i + 1) xs)) ≡ total
  next-item f kept new total xs i x lt is noted so_far =
      let parts : drop i xs ≡ slice_index_or xs i x ∷ drop (i + 1) xs = rw (add-one, drop-cons xs i x lt) refl in
      ap (λ ks. continued name ks (map f (drop (i + 1) xs))) noted ∙ continued-step kept (f x) (map f (drop (i + 1) xs)) ∙ ap (λ y. continued name kept (map f (y ∷ drop (i + 1) xs))) is
      ∙ ap (λ ys. continued name kept (map f ys)) (sym parts) ∙ so_far

  module _ (says : w.Content → List X) where
    split-placed : (ps : List Placed) (i : ℕ) (p : Placed) → i < length ps → p ≡ slice_index_or ps i p → joined says (map placed_of (drop i ps)) ≡ says (content_of p.statement.content) ++ joined says (map placed_of (drop (i + 1) ps))
    split-placed ps i p lt is =
        let parts : drop i ps ≡ slice_index_or ps i p ∷ drop (i + 1) ps = rw (add-one, drop-cons ps i p lt) refl in
        ap (λ qs. joined says (map placed_of qs)) parts ∙ ap (λ (q : Placed). joined says (map placed_of (q ∷ drop (i + 1) ps))) (sym is)

    pub next-placed : (kept new total : List X) (ps : List Placed) (i : ℕ) (p : Placed) → i < length ps → p ≡ slice_index_or ps i p → new ≡ continued name kept (says (content_of p.statement.content))
        → continued name kept (joined says (map placed_of (drop i ps))) ≡ total → continued name new (joined says (map placed_of (drop (i + 1) ps))) ≡ total
    next-placed kept new total ps i p lt is noted so_far =
        ap (λ ks. continued name ks (joined says (map placed_of (drop (i + 1) ps)))) noted ∙ continued-append kept (says (content_of p.statement.content)) (joined says (map placed_of (drop (i + 1) ps)))
        ∙ ap (continued name kept) (sym (split-placed ps i p lt is)) ∙ so_far

  -- ---- how many

  pub kept-few : (kept xs : List X) → length kept ≤ length (continued name kept xs)
  kept-few kept xs = let sum = length-append kept (firsts_after name (map name kept) xs) in omega (arith, sum)

  firsts_by : (b : Bool) (m n k : ℕ) → m ≤ k → n ≤ k → (if b then m else n + 1) ≤ k + 1
  firsts_by true m n k small same = omega (arith, small)
  firsts_by false m n k small same = omega (arith, same)

  length_if : (b : Bool) (x : X) (xs ys : List X) → length (if b then xs else x ∷ ys) ≡ (if b then length xs else length ys + 1)
  length_if true x xs ys = refl
  length_if false x xs ys = omega arith

  pub firsts-few : (before : List (List ℕ)) (xs : List X) → length (firsts_after name before xs) ≤ length xs
  firsts-few before [] = omega arith
  firsts-few before (x ∷ xs) =
      let b = is_among (name x) before in
      let small = firsts_by b (length (firsts_after name before xs)) (length (firsts_after name (before ++ name x ∷ []) xs)) (length xs) (firsts-few before xs) (firsts-few (before ++ name x ∷ []) xs) in
      let long = length_if b x (firsts_after name before xs) (firsts_after name (before ++ name x ∷ []) xs) in
      omega (arith, small, long)

  pub continued-few : (kept xs : List X) → length (continued name kept xs) ≤ length kept + length xs
  continued-few kept xs =
      let sum = length-append kept (firsts_after name (map name kept) xs) in
      let few = firsts-few (map name kept) xs in
      omega (arith, sum, few)

  module _ (says : w.Content → List X) where
    -- what a statement adds is a part of all
    pub placed-few : (kept total : List X) (ps : List Placed) (i : ℕ) (p : Placed) → i < length ps → p ≡ slice_index_or ps i p → continued name kept (joined says (map placed_of (drop i ps))) ≡ total
        → length (continued name kept (says (content_of p.statement.content))) ≤ length total
    placed-few kept total ps i p lt is so_far =
        let after = continued name kept (says (content_of p.statement.content)) in
        let few = kept-few after (joined says (map placed_of (drop (i + 1) ps))) in
        let all = ap (λ (xs : List X). length xs) (next-placed says kept after total ps i p lt is refl so_far) in
        omega (arith, few, all)
