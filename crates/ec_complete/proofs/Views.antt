-- Lists of trees, item by item.
use Rattle.std.proofs.Common.{◌≡◌, ◌<◌, ◌≤◌, ◌+◌, ◌-◌, ℕ, zero, suc, List, [], ◌∷◌, ◌++◌, map, take, drop, drop-cons, length, get_or, slice_get, refl, sym, ap, ◌∙◌, arith, append_assoc}
use Rattle.std.proofs.lemmas.List.{take_more}
use Rattle.ec_logic.specs.Tree as tree
use Rattle.ec_logic.specs.TreeList.{terms_of}
use Rattle.ec_logic.specs.Universe.{Universe}
use Rattle.ec_logic.specs.Paths.{Step, binder, body}
use Rattle.ec_theory.specs.declared.term.Term.{Term}
use Rattle.ec_theory.specs.View.{term_tree, term_trees}
use Rattle.ec_complete.specs.Completion.{lowered, lowered_terms, count_of, term_ranges, terms_ranges, within}
use Rattle.ec_complete.specs.View.{ranges_with}

pub item_at : {A : Type 0} (xs : List A) (i : ℕ) (x : A) → i < length xs → x ≡ get_or xs i x → drop i xs ≡ x ∷ drop (i + 1) xs
item_at xs i x h e = let next : i + 1 ≡ suc i = omega arith in rw (next, drop-cons xs i x, ← e) refl

-- what is found so far, before what is to come
pub added : {A : Type 0} (now next here rest done : List A) → next ≡ now ++ here → now ++ (here ++ rest) ≡ done → next ++ rest ≡ done
added now next here rest done e h = rw (e, append_assoc now here rest) h

pub lowered_terms_of : (by : ℕ) (ts : List Term) → lowered_terms by (term_trees ts) ≡ terms_of (map (λ t. lowered by (term_tree t)) ts)
lowered_terms_of by [] = refl
lowered_terms_of by (t ∷ ts) = ap (tree.term (lowered by (term_tree t))) (lowered_terms_of by ts)

pub count_length : (ts : List Term) → count_of (term_trees ts) ≡ length ts
count_length [] = refl
count_length (t ∷ ts) = ap suc (count_length ts)

mutual
  pub lowered_by_none : (t : tree.Term) → lowered 0 t ≡ t
  lowered_by_none (tree.variable k) = ap tree.variable (omega arith)
  lowered_by_none (tree.int z) = refl
  lowered_by_none (tree.constant c) = refl
  lowered_by_none (tree.event s ts) = ap (tree.event s) (all_by_none ts)
  lowered_by_none (tree.fluent s ts) = ap (tree.fluent s) (all_by_none ts)
  lowered_by_none (tree.sum a b) = rw (lowered_by_none a, lowered_by_none b) refl
  lowered_by_none (tree.difference a b) = rw (lowered_by_none a, lowered_by_none b) refl
  lowered_by_none (tree.product a b) = rw (lowered_by_none a, lowered_by_none b) refl

  all_by_none : (ts : tree.Terms) → lowered_terms 0 ts ≡ ts
  all_by_none tree.no_terms = refl
  all_by_none (tree.term t ts) = rw (lowered_by_none t, all_by_none ts) refl

-- ---- the arguments of a symbol

split_args : (universe : Universe) (d : ℕ) (ss : List ℕ) (i : ℕ) (t : tree.Term) (ts : tree.Terms) → terms_ranges universe d (drop i ss) (tree.term t ts) ≡ ranges_with universe d (slice_get ss i) t ++ (term_ranges universe d t ++ terms_ranges universe d (drop (suc i) ss) ts)
split_args universe d [] zero t ts = refl
split_args universe d [] (suc i) t ts = refl
split_args universe d (s ∷ ss) zero t ts = refl
split_args universe d (s ∷ ss) (suc i) t ts = split_args universe d ss i t ts

pub args_step : (universe : Universe) (d : ℕ) (ss : List ℕ) (args : List Term) (i : ℕ) (arg : Term) → i < length args → arg ≡ get_or args i arg → terms_ranges universe d (drop i ss) (term_trees (drop i args)) ≡ ranges_with universe d (slice_get ss i) (term_tree arg) ++ (term_ranges universe d (term_tree arg) ++ terms_ranges universe d (drop (i + 1) ss) (term_trees (drop (i + 1) args)))
args_step universe d ss args i arg h e =
    let next : i + 1 ≡ suc i = omega arith in
    rw (item_at args i arg h e, next) (split_args universe d ss i (term_tree arg) (term_trees (drop (suc i) args)))

-- ---- steps, from the innermost outwards

within_take : {A : Type 0} (view : A → Step) (xs : List A) (x : A) (f : tree.Formula) → within (map view (xs ++ x ∷ [])) f ≡ within (map view xs) (within (view x ∷ []) f)
within_take view [] x f = refl
within_take view (y ∷ xs) x f = cases (within_take view xs x f) (view y)
  where
    cases : within (map view (xs ++ x ∷ [])) f ≡ within (map view xs) (within (view x ∷ []) f) → (s : Step) → within (s ∷ map view (xs ++ x ∷ [])) f ≡ within (s ∷ map view xs) (within (view x ∷ []) f)
    cases ih (binder s g) = ap (tree.exists s) ih
    cases ih (body g) = ih

-- the last of the first k
pub within_back : {A : Type 0} (view : A → Step) (xs : List A) (k : ℕ) (x : A) (f : tree.Formula) → 0 < k → k ≤ length xs → x ≡ get_or xs (k - 1) x → within (map view (take (k - 1) xs)) (within (view x ∷ []) f) ≡ within (map view (take k xs)) f
within_back view xs k x f p h e =
    let back : k - 1 + 1 ≡ k = omega arith in
    let more = rw back at (take_more xs (k - 1) x (omega arith)) in
    let at-x : take k xs ≡ take (k - 1) xs ++ x ∷ [] = more ∙ ap (λ y. take (k - 1) xs ++ y ∷ []) (sym e) in
    rw at-x (sym (within_take view (take (k - 1) xs) x f))
