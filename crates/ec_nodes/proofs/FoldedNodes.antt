-- A fold has fewer nodes than twice the weight of its formula.
use Rattle.std.proofs.Common.{◌≡◌, ℕ, zero, suc, ◌+◌, ◌*◌, ◌≤◌, Bool, true, false, not, List, [], ◌∷◌, ◌++◌, length, map, filter, ℤ, pos, ◌+ℤ◌, refl, ap, ◌∙◌, arith, if◌then◌else◌, mul-le-mul_right}
use Rattle.std.specs.Prelude.{int_lt}
use Rattle.std.specs.Ordering.{int_eq}
use Rattle.std.specs.List.{list_any, range_with_len}
use Rattle.std.proofs.lemmas.List.FromFn.{length-map-range_with_len}
use Rattle.ec_logic.specs.Tree.{Formula, verum, falsum, atom, equal, less, negation, all_of, any_of, implies, iff, for_all, exists, Formulas, no_formulas, formula}
use Rattle.ec_logic.specs.Extent.{Extent, numbers, members, domain_of, size_of, passing}
use Rattle.ec_logic.specs.Universe.{Universe, extent_at, domain}
use Rattle.ec_logic.specs.Value.{value, values}
use Rattle.ec_logic.specs.Place.{keeps, kept_values}
use Rattle.ec_folding.specs.Tree as folding
use Rattle.ec_folding.specs.Tree.{Tree, always, never, literal, Trees, no_trees, tree, as_trees, as_list, nodes, nodes_of, under_sign}
use Rattle.ec_folding.specs.Join.{constant, is_constant, parts_of, opened, closed, join}
use Rattle.ec_grounding.specs.Folded.{Leaf, fixed, numbered, Reading, leaf_tree, folded, folded_each}
use Rattle.ec_weight.specs.Weight.{size, weight, weights}

-- how many nodes these trees have together
abbrev pub nodes_in : List Tree → ℕ
nodes_in [] = 0
nodes_in (t ∷ ts) = nodes t + nodes_in ts

pub nodes_in-append : (ts us : List Tree) → nodes_in (ts ++ us) ≡ nodes_in ts + nodes_in us
nodes_in-append [] us = omega arith
nodes_in-append (t ∷ ts) us = let h = nodes_in-append ts us in omega (arith, h)

pub nodes_in-trees : (ts : List Tree) → nodes_of (as_trees ts) ≡ nodes_in ts
nodes_in-trees [] = refl
nodes_in-trees (t ∷ ts) = ap (λ n. nodes t + n) (nodes_in-trees ts)

nodes_in-list : (ts : Trees) → nodes_in (as_list ts) ≡ nodes_of ts
nodes_in-list no_trees = refl
nodes_in-list (tree t ts) = ap (λ n. nodes t + n) (nodes_in-list ts)

-- ---- a join

few_parts : (sign : Bool) (t : Tree) → nodes_in (parts_of sign t) ≤ nodes t
few_parts true always = omega arith
few_parts true never = omega arith
few_parts true (literal a s) = omega arith
few_parts true (folding.all_of ts) = let h = nodes_in-list ts in omega (arith, h)
few_parts true (folding.any_of ts) = omega arith
few_parts false always = omega arith
few_parts false never = omega arith
few_parts false (literal a s) = omega arith
few_parts false (folding.all_of ts) = omega arith
few_parts false (folding.any_of ts) = let h = nodes_in-list ts in omega (arith, h)

few_opened : (sign : Bool) (ts : List Tree) → nodes_in (opened sign ts) ≤ nodes_in ts
few_opened sign [] = omega arith
few_opened sign (t ∷ ts) = let h = nodes_in-append (parts_of sign t) (opened sign ts) in let first = few_parts sign t in let rest = few_opened sign ts in omega (arith, h, first, rest)

few_kept : (test : Tree → Bool) (ts : List Tree) → nodes_in (filter test ts) ≤ nodes_in ts
few_kept test [] = omega arith
few_kept test (t ∷ ts) = by_test (test t) (few_kept test ts)
  where
    by_test : (b : Bool) → nodes_in (filter test ts) ≤ nodes_in ts → nodes_in (if b then t ∷ filter test ts else filter test ts) ≤ nodes t + nodes_in ts
    by_test true h = omega (arith, h)
    by_test false h = omega (arith, h)

one_constant : (b : Bool) → nodes (constant b) ≡ 1
one_constant true = refl
one_constant false = refl

few_closed : (sign : Bool) (ts : List Tree) → nodes (closed sign ts) ≤ 1 + nodes_in ts
few_closed sign [] = let h = one_constant sign in omega (arith, h)
few_closed sign (t ∷ []) = omega arith
few_closed true (t ∷ u ∷ ts) = let h = nodes_in-trees (t ∷ u ∷ ts) in omega (arith, h)
few_closed false (t ∷ u ∷ ts) = let h = nodes_in-trees (t ∷ u ∷ ts) in omega (arith, h)

pub few_joined : (sign : Bool) (ts : List Tree) → nodes (join sign ts) ≤ 1 + nodes_in ts
few_joined sign ts = by_test (list_any (is_constant (not sign)) (opened sign ts))
  where
    by_test : (b : Bool) → nodes (if b then constant (not sign) else closed sign (filter (λ t. not (is_constant sign t)) (opened sign ts))) ≤ 1 + nodes_in ts
    by_test true = let h = one_constant (not sign) in omega (arith, h)
    by_test false =
        let whole = few_closed sign (filter (λ t. not (is_constant sign t)) (opened sign ts)) in
        let kept = few_kept (λ t. not (is_constant sign t)) (opened sign ts) in
        let parts = few_opened sign ts in
        omega (arith, whole, kept, parts)

few_of_two : (sign : Bool) (t u : Tree) → nodes (join sign (t ∷ u ∷ [])) ≤ 1 + (nodes t + nodes u)
few_of_two sign t u = let h = few_joined sign (t ∷ u ∷ []) in omega (arith, h)

-- ---- the values of a binder

pub length-filter : {A : Type 0} (test : A → Bool) (xs : List A) → length (filter test xs) ≤ length xs
length-filter test [] = omega arith
length-filter test (x ∷ xs) = by_test (test x) (length-filter test xs)
  where
    by_test : (b : Bool) → length (filter test xs) ≤ length xs → length (if b then x ∷ filter test xs else filter test xs) ≤ suc (length xs)
    by_test true h = omega (arith, h)
    by_test false h = omega (arith, h)

length-map : {A B : Type 0} (f : A → B) (xs : List A) → length (map f xs) ≡ length xs
length-map f [] = refl
length-map f (x ∷ xs) = ap suc (length-map f xs)

passing_length : (test : ℕ → Bool) (from count : ℕ) → length (filter test (range_with_len from count)) ≡ passing test from count
passing_length test from zero = refl
passing_length test from (suc n) = by_test (test from) (let next : from + 1 ≡ suc from = omega arith in rw next at (passing_length test (from + 1) n))
  where
    by_test : (b : Bool) → length (filter test (range_with_len (suc from) n)) ≡ passing test (suc from) n
        → length (if b then from ∷ filter test (range_with_len (from + 1) n) else filter test (range_with_len (from + 1) n)) ≡ (if b then suc (passing test (suc from) n) else passing test (suc from) n)
    by_test true h = let next : from + 1 ≡ suc from = omega arith in rw next (ap suc h)
    by_test false h = let next : from + 1 ≡ suc from = omega arith in rw next h

domain_length : (extent : Extent) → length (domain_of extent) ≡ size_of extent
domain_length (numbers least count) = length-map-range_with_len (λ k. least +ℤ pos k) 0 count
domain_length (members count test) = length-map pos (filter test (range_with_len 0 count)) ∙ passing_length test 0 count

pub few_values : (universe : Universe) (env : List ℤ) (s : ℕ) (f : Formula) → length (kept_values universe env s f) ≤ size universe s
few_values universe env s f =
    let kept = length-filter (λ v. keeps universe (v ∷ env) 0 f) (domain universe s) in
    let all = domain_length (extent_at universe s) in
    omega (arith, kept, all)

each_few : (made : ℤ → Tree) (w : ℕ) → ((x : ℤ) → nodes (made x) + 1 ≤ 2 * w) → (xs : List ℤ) → nodes_in (map made xs) ≤ length xs * (2 * w)
each_few made w h [] = omega arith
each_few made w h (x ∷ xs) = let first = h x in let rest = each_few made w h xs in let more : length (x ∷ xs) * (2 * w) ≡ 2 * w + length xs * (2 * w) = omega arith in omega (arith, first, rest, more)

-- a part for each value over which a binder runs
few_for_values : (sign : Bool) (made : ℤ → Tree) (w n : ℕ) → ((x : ℤ) → nodes (made x) + 1 ≤ 2 * w) → (xs : List ℤ) → length xs ≤ n → nodes (join sign (map made xs)) + 1 ≤ 2 * (1 + n * w)
few_for_values sign made w n h xs l =
    let whole = few_joined sign (map made xs) in
    let parts = each_few made w h xs in
    let most : length xs * (2 * w) ≤ n * (2 * w) = mul-le-mul_right (2 * w) l in
    let twice : n * (2 * w) ≡ 2 * (n * w) = omega arith in
    omega (arith, whole, parts, most, twice)

-- ---- the folds

module _ (universe : Universe) (reading : Reading) where
  one_leaf : (sign : Bool) (leaf : Leaf) → nodes (leaf_tree sign leaf) ≡ 1
  one_leaf sign (fixed b) = one_constant (under_sign sign b)
  one_leaf sign (numbered k) = refl

  mutual
    pub few_folded : (env : List ℤ) (sign : Bool) (f : Formula) → nodes (folded universe reading env sign f) + 1 ≤ 2 * weight universe f
    few_folded env sign verum = let h = one_constant sign in omega (arith, h)
    few_folded env sign falsum = let h = one_constant (not sign) in omega (arith, h)
    few_folded env sign (atom p ts) = let h = one_leaf sign (reading p (values universe env ts)) in omega (arith, h)
    few_folded env sign (equal a b) = let h = one_constant (under_sign sign (int_eq (value universe env a) (value universe env b))) in omega (arith, h)
    few_folded env sign (less a b) = let h = one_constant (under_sign sign (int_lt (value universe env a) (value universe env b))) in omega (arith, h)
    few_folded env sign (negation f) = let h = few_folded env (not sign) f in omega (arith, h)
    few_folded env sign (all_of fs) = let h = few_joined sign (folded_each universe reading env sign fs) in let k = few_each env sign fs in omega (arith, h, k)
    few_folded env sign (any_of fs) = let h = few_joined (not sign) (folded_each universe reading env sign fs) in let k = few_each env sign fs in omega (arith, h, k)
    few_folded env sign (implies f g) =
        let h = few_of_two (not sign) (folded universe reading env (not sign) f) (folded universe reading env sign g) in
        let left = few_folded env (not sign) f in
        let right = few_folded env sign g in
        omega (arith, h, left, right)
    few_folded env sign (iff f g) =
        let h = few_of_two true (join false (folded universe reading env (not sign) f ∷ folded universe reading env true g ∷ [])) (join false (folded universe reading env sign f ∷ folded universe reading env false g ∷ [])) in
        let front = few_of_two false (folded universe reading env (not sign) f) (folded universe reading env true g) in
        let back = few_of_two false (folded universe reading env sign f) (folded universe reading env false g) in
        let a = few_folded env (not sign) f in
        let b = few_folded env true g in
        let c = few_folded env sign f in
        let d = few_folded env false g in
        omega (arith, h, front, back, a, b, c, d)
    few_folded env sign (for_all s f) = few_for_values sign (λ x. folded universe reading (x ∷ env) sign f) (weight universe f) (size universe s) (λ x. few_folded (x ∷ env) sign f) (kept_values universe env s f) (few_values universe env s f)
    few_folded env sign (exists s f) = few_for_values (not sign) (λ x. folded universe reading (x ∷ env) sign f) (weight universe f) (size universe s) (λ x. few_folded (x ∷ env) sign f) (kept_values universe env s f) (few_values universe env s f)

    few_each : (env : List ℤ) (sign : Bool) (fs : Formulas) → nodes_in (folded_each universe reading env sign fs) ≤ 2 * weights universe fs
    few_each env sign no_formulas = omega arith
    few_each env sign (formula f fs) = let first = few_folded env sign f in let rest = few_each env sign fs in omega (arith, first, rest)
