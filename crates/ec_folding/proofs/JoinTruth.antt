-- A conj is true where all its parts are, a disj where one is.
use Rattle.std.proofs.Common.{◌≡◌, ℕ, Bool, true, false, not, ◌&&◌, ◌||◌, List, [], ◌∷◌, ◌++◌, refl, sym, ap, ◌∙◌, filter, if◌then◌else◌}
use Rattle.std.specs.List.{list_all, list_any}
use Rattle.ec_folding.specs.Tree.{Tree, always, never, literal, all_of, any_of, Trees, no_trees, tree, as_trees, as_list, true_in, each_true, some_true}
use Rattle.ec_folding.specs.Join.{constant, is_constant, parts_of, opened, closed, join, conj, disj}

pub listed : (ts : List Tree) → as_list (as_trees ts) ≡ ts
listed [] = refl
listed (t ∷ ts) = ap (λ (us : List Tree). t ∷ us) (listed ts)

-- truth of a list of trees, all of them or some
abbrev pub quantified : Bool → (ℕ → Bool) → List Tree → Bool
quantified true v ts = list_all (true_in v) ts
quantified false v ts = list_any (true_in v) ts

module _ (v : ℕ → Bool) where
  each_true_is : (ts : Trees) → each_true v ts ≡ list_all (true_in v) (as_list ts)
  each_true_is no_trees = refl
  each_true_is (tree t ts) = ap (λ b. true_in v t && b) (each_true_is ts)

  some_true_is : (ts : Trees) → some_true v ts ≡ list_any (true_in v) (as_list ts)
  some_true_is no_trees = refl
  some_true_is (tree t ts) = ap (λ b. true_in v t || b) (some_true_is ts)

  each_true_of : (ts : List Tree) → each_true v (as_trees ts) ≡ list_all (true_in v) ts
  each_true_of [] = refl
  each_true_of (t ∷ ts) = ap (λ b. true_in v t && b) (each_true_of ts)

  some_true_of : (ts : List Tree) → some_true v (as_trees ts) ≡ list_any (true_in v) ts
  some_true_of [] = refl
  some_true_of (t ∷ ts) = ap (λ b. true_in v t || b) (some_true_of ts)

-- both, or one of two
abbrev pub and_or_or : Bool → Bool → Bool → Bool
and_or_or true a b = a && b
and_or_or false a b = a || b

module _ (v : ℕ → Bool) where
  pub quantified-cons : (sign : Bool) (t : Tree) (ts : List Tree) → quantified sign v (t ∷ ts) ≡ and_or_or sign (true_in v t) (quantified sign v ts)
  quantified-cons true t ts = refl
  quantified-cons false t ts = refl

  both_assoc : (sign a b c : Bool) → and_or_or sign a (and_or_or sign b c) ≡ and_or_or sign (and_or_or sign a b) c
  both_assoc true true b c = refl
  both_assoc true false b c = refl
  both_assoc false true b c = refl
  both_assoc false false b c = refl

  both_unit : (sign b : Bool) → and_or_or sign sign b ≡ b
  both_unit true b = refl
  both_unit false b = refl

  unit_both : (sign b : Bool) → and_or_or sign b sign ≡ b
  unit_both true true = refl
  unit_both true false = refl
  unit_both false true = refl
  unit_both false false = refl

  quantified-append : (sign : Bool) (ts us : List Tree) → quantified sign v (ts ++ us) ≡ and_or_or sign (quantified sign v ts) (quantified sign v us)
  quantified-append true [] us = refl
  quantified-append false [] us = refl
  quantified-append true (t ∷ ts) us = ap (λ b. true_in v t && b) (quantified-append true ts us) ∙ both_assoc true (true_in v t) (quantified true v ts) (quantified true v us)
  quantified-append false (t ∷ ts) us = ap (λ b. true_in v t || b) (quantified-append false ts us) ∙ both_assoc false (true_in v t) (quantified false v ts) (quantified false v us)

  quantified-one : (sign : Bool) (t : Tree) → quantified sign v (t ∷ []) ≡ true_in v t
  quantified-one true t = unit_both true (true_in v t)
  quantified-one false t = unit_both false (true_in v t)

  quantified-parts_of : (sign : Bool) (t : Tree) → quantified sign v (parts_of sign t) ≡ true_in v t
  quantified-parts_of true always = refl
  quantified-parts_of true never = refl
  quantified-parts_of true (literal a b) = quantified-one true (literal a b)
  quantified-parts_of true (all_of ts) = sym (each_true_is v ts)
  quantified-parts_of true (any_of ts) = quantified-one true (any_of ts)
  quantified-parts_of false always = refl
  quantified-parts_of false never = refl
  quantified-parts_of false (literal a b) = quantified-one false (literal a b)
  quantified-parts_of false (any_of ts) = sym (some_true_is v ts)
  quantified-parts_of false (all_of ts) = quantified-one false (all_of ts)

  quantified-opened : (sign : Bool) (ts : List Tree) → quantified sign v (opened sign ts) ≡ quantified sign v ts
  quantified-opened true [] = refl
  quantified-opened false [] = refl
  quantified-opened sign (t ∷ ts) = rw (quantified-append sign (parts_of sign t) (opened sign ts), quantified-parts_of sign t, quantified-opened sign ts) (sym (quantified-cons sign t ts))

  true_in-closed : (sign : Bool) (ts : List Tree) → true_in v (closed sign ts) ≡ quantified sign v ts
  true_in-closed true [] = refl
  true_in-closed false [] = refl
  true_in-closed sign (t ∷ []) = sym (quantified-one sign t)
  true_in-closed true (t ∷ u ∷ ts) = each_true_of v (t ∷ u ∷ ts)
  true_in-closed false (t ∷ u ∷ ts) = some_true_of v (t ∷ u ∷ ts)

  -- a True in a conj, or a False in a disj, changes nothing
  quantified-filter : (sign : Bool) (ts : List Tree) → quantified sign v (filter (λ t. not (is_constant sign t)) ts) ≡ quantified sign v ts
  quantified-filter true [] = refl
  quantified-filter false [] = refl
  quantified-filter true (always ∷ ts) = quantified-filter true ts
  quantified-filter true (never ∷ ts) = refl
  quantified-filter true (literal a b ∷ ts) = ap (λ x. true_in v (literal a b) && x) (quantified-filter true ts)
  quantified-filter true (all_of us ∷ ts) = ap (λ x. true_in v (all_of us) && x) (quantified-filter true ts)
  quantified-filter true (any_of us ∷ ts) = ap (λ x. true_in v (any_of us) && x) (quantified-filter true ts)
  quantified-filter false (always ∷ ts) = refl
  quantified-filter false (never ∷ ts) = quantified-filter false ts
  quantified-filter false (literal a b ∷ ts) = ap (λ x. true_in v (literal a b) || x) (quantified-filter false ts)
  quantified-filter false (all_of us ∷ ts) = ap (λ x. true_in v (all_of us) || x) (quantified-filter false ts)
  quantified-filter false (any_of us ∷ ts) = ap (λ x. true_in v (any_of us) || x) (quantified-filter false ts)

  absorbed : (sign b : Bool) → and_or_or sign (not sign) b ≡ not sign
  absorbed true b = refl
  absorbed false b = refl

  absorbing : (sign b : Bool) → and_or_or sign b (not sign) ≡ not sign
  absorbing true true = refl
  absorbing true false = refl
  absorbing false true = refl
  absorbing false false = refl

  -- a False in a conj, or a True in a disj, decides it
  quantified-decided : (sign : Bool) (ts : List Tree) → list_any (is_constant (not sign)) ts ≡ true → quantified sign v ts ≡ not sign
  quantified-decided sign [] h = cc
  quantified-decided true (never ∷ ts) h = refl
  quantified-decided false (always ∷ ts) h = refl
  quantified-decided true (always ∷ ts) h = quantified-decided true ts h
  quantified-decided true (literal a b ∷ ts) h = rw (quantified-decided true ts h) (absorbing true (true_in v (literal a b)))
  quantified-decided true (all_of us ∷ ts) h = rw (quantified-decided true ts h) (absorbing true (true_in v (all_of us)))
  quantified-decided true (any_of us ∷ ts) h = rw (quantified-decided true ts h) (absorbing true (true_in v (any_of us)))
  quantified-decided false (never ∷ ts) h = quantified-decided false ts h
  quantified-decided false (literal a b ∷ ts) h = rw (quantified-decided false ts h) (absorbing false (true_in v (literal a b)))
  quantified-decided false (all_of us ∷ ts) h = rw (quantified-decided false ts h) (absorbing false (true_in v (all_of us)))
  quantified-decided false (any_of us ∷ ts) h = rw (quantified-decided false ts h) (absorbing false (true_in v (any_of us)))

  pub true_in-constant : (b : Bool) → true_in v (constant b) ≡ b
  true_in-constant true = refl
  true_in-constant false = refl

  -- conj is true where all parts_of are, disj where one is
  pub true_in-join : (sign : Bool) (ts : List Tree) → true_in v (join sign ts) ≡ quantified sign v ts
  true_in-join sign ts = cases (list_any (is_constant (not sign)) (opened sign ts)) refl
    where
      cases : (b : Bool) → list_any (is_constant (not sign)) (opened sign ts) ≡ b → true_in v (if b then constant (not sign) else closed sign (filter (λ t. not (is_constant sign t)) (opened sign ts))) ≡ quantified sign v ts
      cases true e = true_in-constant (not sign) ∙ sym (quantified-decided sign (opened sign ts) e) ∙ quantified-opened sign ts
      cases false e = true_in-closed sign (filter (λ t. not (is_constant sign t)) (opened sign ts)) ∙ quantified-filter sign (opened sign ts) ∙ quantified-opened sign ts

  pub true_in-conj : (ts : List Tree) → true_in v (conj ts) ≡ list_all (true_in v) ts
  true_in-conj ts = true_in-join true ts

  pub true_in-disj : (ts : List Tree) → true_in v (disj ts) ≡ list_any (true_in v) ts
  true_in-disj ts = true_in-join false ts
