-- The atoms of folds, and of trees of atoms, are those that a reading has as literals.
use Rattle.std.proofs.Common.{◌≡◌, ℕ, Bool, true, false, not, List, [], ◌∷◌, ℤ, map, filter, All, refl, if◌then◌else◌}
use Rattle.std.specs.Prelude.{int_lt}
use Rattle.std.specs.Ordering.{int_eq}
use Rattle.std.specs.List.{list_all, list_any, flat_map}
use Rattle.std.proofs.lemmas.List.Elements.{All-nil, All-cons, All-head, All-tail, All-append}
use Rattle.ec_logic.specs.Tree.{Formula, verum, falsum, atom, equal, less, negation, all_of, any_of, implies, iff, for_all, exists, Formulas, no_formulas, formula}
use Rattle.ec_logic.specs.Universe.{Universe}
use Rattle.ec_logic.specs.Value.{value, values}
use Rattle.ec_logic.specs.Place.{kept_values}
use Rattle.ec_logic.specs.ClauseTree.{only_has, only_have}
use Rattle.ec_logic.specs.Paths.{Path, paths, instances, bodies}
use Rattle.ec_logic.proofs.Tests.{and_parts}
use Rattle.ec_folding.specs.Tree as folding
use Rattle.ec_folding.specs.Tree.{Tree, always, never, literal, Trees, no_trees, tree, as_trees, as_list, EachAtom, EachAtomOf, under_sign}
use Rattle.ec_folding.specs.Join.{constant, is_constant, parts_of, opened, closed, join}
use Rattle.ec_grounding.specs.Folded.{Leaf, fixed, numbered, Reading, leaf_tree, folded, folded_each}
use Rattle.ec_grounding.specs.Scope.{is_head, instance_tree, path_trees, scope_of}
use Rattle.ec_grounding.proofs.SameReading.{has_such_bodies}

module _ (P : ℕ → Type 0) where
  -- ---- the atoms of a join

  each_listed : (ts : Trees) → EachAtomOf P ts → All (EachAtom P) (as_list ts)
  each_listed no_trees h = All-nil (EachAtom P)
  each_listed (tree t ts) h = All-cons (EachAtom P) t (as_list ts) h.0 (each_listed ts h.1)

  each_trees : (ts : List Tree) → All (EachAtom P) ts → EachAtomOf P (as_trees ts)
  each_trees [] h = tt
  each_trees (t ∷ ts) h = (All-head (EachAtom P) t ts h, each_trees ts (All-tail (EachAtom P) t ts h))

  one_part : (t : Tree) → EachAtom P t → All (EachAtom P) (t ∷ [])
  one_part t h = All-cons (EachAtom P) t [] h (All-nil (EachAtom P))

  each_part : (sign : Bool) (t : Tree) → EachAtom P t → All (EachAtom P) (parts_of sign t)
  each_part true always h = one_part always h
  each_part true never h = one_part never h
  each_part true (literal a s) h = one_part (literal a s) h
  each_part true (folding.all_of ts) h = each_listed ts h
  each_part true (folding.any_of ts) h = one_part (folding.any_of ts) h
  each_part false always h = one_part always h
  each_part false never h = one_part never h
  each_part false (literal a s) h = one_part (literal a s) h
  each_part false (folding.all_of ts) h = one_part (folding.all_of ts) h
  each_part false (folding.any_of ts) h = each_listed ts h

  each_opened : (sign : Bool) (ts : List Tree) → All (EachAtom P) ts → All (EachAtom P) (opened sign ts)
  each_opened sign [] h = All-nil (EachAtom P)
  each_opened sign (t ∷ ts) h = All-append (EachAtom P) (parts_of sign t) (opened sign ts) (each_part sign t (All-head (EachAtom P) t ts h)) (each_opened sign ts (All-tail (EachAtom P) t ts h))

  each_kept : (test : Tree → Bool) (ts : List Tree) → All (EachAtom P) ts → All (EachAtom P) (filter test ts)
  each_kept test [] h = All-nil (EachAtom P)
  each_kept test (t ∷ ts) h = by_test (test t) (each_kept test ts (All-tail (EachAtom P) t ts h))
    where
      by_test : (b : Bool) → All (EachAtom P) (filter test ts) → All (EachAtom P) (if b then t ∷ filter test ts else filter test ts)
      by_test true rest = All-cons (EachAtom P) t (filter test ts) (All-head (EachAtom P) t ts h) rest
      by_test false rest = rest

  each_constant : (b : Bool) → EachAtom P (constant b)
  each_constant true = tt
  each_constant false = tt

  each_closed : (sign : Bool) (ts : List Tree) → All (EachAtom P) ts → EachAtom P (closed sign ts)
  each_closed sign [] h = each_constant sign
  each_closed sign (t ∷ []) h = All-head (EachAtom P) t [] h
  each_closed true (t ∷ u ∷ ts) h = each_trees (t ∷ u ∷ ts) h
  each_closed false (t ∷ u ∷ ts) h = each_trees (t ∷ u ∷ ts) h

  pub each_join : (sign : Bool) (ts : List Tree) → All (EachAtom P) ts → EachAtom P (join sign ts)
  each_join sign ts h = by_test (list_any (is_constant (not sign)) (opened sign ts))
    where
      by_test : (b : Bool) → EachAtom P (if b then constant (not sign) else closed sign (filter (λ t. not (is_constant sign t)) (opened sign ts)))
      by_test true = each_constant (not sign)
      by_test false = each_closed sign (filter (λ t. not (is_constant sign t)) (opened sign ts)) (each_kept (λ t. not (is_constant sign t)) (opened sign ts) (each_opened sign ts h))

  each_two : (sign : Bool) (t u : Tree) → EachAtom P t → EachAtom P u → EachAtom P (join sign (t ∷ u ∷ []))
  each_two sign t u h k = each_join sign (t ∷ u ∷ []) (All-cons (EachAtom P) t (u ∷ []) h (one_part u k))

  each_mapped : {A : Type 0} (made : A → Tree) → ((x : A) → EachAtom P (made x)) → (xs : List A) → All (EachAtom P) (map made xs)
  each_mapped made h [] = All-nil (EachAtom P)
  each_mapped made h (x ∷ xs) = All-cons (EachAtom P) (made x) (map made xs) (h x) (each_mapped made h xs)

  -- ---- the atoms of a fold

  module _ (test : ℕ → Bool) (universe : Universe) (reading : Reading) (reads : (p k : ℕ) (vs : List ℤ) → test p ≡ true → reading p vs ≡ numbered k → P k) where
    each_leaf : (p : ℕ) (vs : List ℤ) → test p ≡ true → (sign : Bool) → EachAtom P (leaf_tree sign (reading p vs))
    each_leaf p vs e sign = by_leaf (reading p vs) (λ k is. reads p k vs e is)
      where
        by_leaf : (leaf : Leaf) → ((k : ℕ) → leaf ≡ numbered k → P k) → EachAtom P (leaf_tree sign leaf)
        by_leaf (fixed b) go = each_constant (under_sign sign b)
        by_leaf (numbered k) go = go k refl

    mutual
      pub each_folded : (env : List ℤ) (sign : Bool) (f : Formula) → only_has test f ≡ true → EachAtom P (folded universe reading env sign f)
      each_folded env sign verum h = each_constant sign
      each_folded env sign falsum h = each_constant (not sign)
      each_folded env sign (atom p ts) h = each_leaf p (values universe env ts) h sign
      each_folded env sign (equal a b) h = each_constant (under_sign sign (int_eq (value universe env a) (value universe env b)))
      each_folded env sign (less a b) h = each_constant (under_sign sign (int_lt (value universe env a) (value universe env b)))
      each_folded env sign (negation f) h = each_folded env (not sign) f h
      each_folded env sign (all_of fs) h = each_join sign (folded_each universe reading env sign fs) (each_of_folded env sign fs h)
      each_folded env sign (any_of fs) h = each_join (not sign) (folded_each universe reading env sign fs) (each_of_folded env sign fs h)
      each_folded env sign (implies f g) h =
          let both = and_parts (only_has test f) (only_has test g) h in
          each_two (not sign) (folded universe reading env (not sign) f) (folded universe reading env sign g) (each_folded env (not sign) f both.0) (each_folded env sign g both.1)
      each_folded env sign (iff f g) h =
          let both = and_parts (only_has test f) (only_has test g) h in
          each_two true (join false (folded universe reading env (not sign) f ∷ folded universe reading env true g ∷ [])) (join false (folded universe reading env sign f ∷ folded universe reading env false g ∷ []))
          (each_two false (folded universe reading env (not sign) f) (folded universe reading env true g) (each_folded env (not sign) f both.0) (each_folded env true g both.1))
          (each_two false (folded universe reading env sign f) (folded universe reading env false g) (each_folded env sign f both.0) (each_folded env false g both.1))
      each_folded env sign (for_all s f) h = each_join sign (map (λ x. folded universe reading (x ∷ env) sign f) (kept_values universe env s f)) (each_mapped (λ x. folded universe reading (x ∷ env) sign f) (λ x. each_folded (x ∷ env) sign f h) (kept_values universe env s f))
      each_folded env sign (exists s f) h = each_join (not sign) (map (λ x. folded universe reading (x ∷ env) sign f) (kept_values universe env s f)) (each_mapped (λ x. folded universe reading (x ∷ env) sign f) (λ x. each_folded (x ∷ env) sign f h) (kept_values universe env s f))

      each_of_folded : (env : List ℤ) (sign : Bool) (fs : Formulas) → only_have test fs ≡ true → All (EachAtom P) (folded_each universe reading env sign fs)
      each_of_folded env sign no_formulas h = All-nil (EachAtom P)
      each_of_folded env sign (formula f fs) h =
          let both = and_parts (only_has test f) (only_have test fs) h in
          All-cons (EachAtom P) (folded universe reading env sign f) (folded_each universe reading env sign fs) (each_folded env sign f both.0) (each_of_folded env sign fs both.1)

    each_body : (env : List ℤ) (fs : List Formula) → list_all (only_has test) fs ≡ true → All (EachAtom P) (map (folded universe reading env true) fs)
    each_body env [] h = All-nil (EachAtom P)
    each_body env (f ∷ fs) h =
        let both = and_parts (only_has test f) (list_all (only_has test) fs) h in
        All-cons (EachAtom P) (folded universe reading env true f) (map (folded universe reading env true) fs) (each_folded env true f both.0) (each_body env fs both.1)

    module _ (p : ℕ) (vs : List ℤ) where
      each_path : (qs : List Path) → list_all (has_such_bodies test) qs ≡ true → All (EachAtom P) (flat_map (path_trees universe reading p vs) qs)
      each_path [] h = All-nil (EachAtom P)
      each_path (q ∷ qs) h =
          let both = and_parts (has_such_bodies test q) (list_all (has_such_bodies test) qs) h in
          All-append (EachAtom P) (path_trees universe reading p vs q) (flat_map (path_trees universe reading p vs) qs)
          (each_mapped (instance_tree universe reading q) (λ env. each_join true (map (folded universe reading env true) (bodies q.steps)) (each_body env (bodies q.steps) both.0)) (filter (is_head universe p vs q) (instances universe [] q.steps)))
          (each_path qs both.1)

      pub each_scope : (sentences : List Formula) → list_all (has_such_bodies test) (flat_map paths sentences) ≡ true → EachAtom P (scope_of universe reading sentences p vs)
      each_scope sentences h = each_join false (flat_map (path_trees universe reading p vs) (flat_map paths sentences)) (each_path (flat_map paths sentences) h)
