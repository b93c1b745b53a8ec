-- The tree of an atom is true exactly where the sentences support the atom.
use Rattle.std.proofs.Common.{◌≡◌, ℕ, Bool, true, false, ◌&&◌, ◌||◌, List, [], ◌∷◌, ℤ, map, filter, refl, ◌∙◌, if◌then◌else◌}
use Rattle.std.specs.List.{list_all, list_any, flat_map}
use Rattle.std.proofs.lemmas.List.Folds.{list_any-append}
use Rattle.ec_logic.specs.Tree.{Formula}
use Rattle.ec_logic.specs.Universe.{Universe}
use Rattle.ec_logic.specs.Truth.{Structure, truth}
use Rattle.ec_logic.specs.Paths.{Path, paths, instances, bodies, path_supports}
use Rattle.ec_logic.specs.ClauseTree.{is_supported}
use Rattle.ec_logic.proofs.SupportByPaths.{supported_by_paths}
use Rattle.ec_folding.specs.Tree.{true_in}
use Rattle.ec_folding.proofs.JoinTruth.{true_in-conj, true_in-disj}
use Rattle.ec_grounding.specs.Folded.{Reading, leaf_truth, folded}
use Rattle.ec_grounding.specs.Scope.{is_head, instance_tree, path_trees, scope_of}
use Rattle.ec_grounding.proofs.FoldedTruth.{true_in-folded}

-- one of what is made of those that pass has a fact
any_kept : {A B : Type 0} (holds : B → Bool) (made : A → B) (fact passes : A → Bool) → ((x : A) → holds (made x) ≡ fact x) → (xs : List A) → list_any holds (map made (filter passes xs)) ≡ list_any (λ x. fact x && passes x) xs
any_kept holds made fact passes same [] = refl
any_kept holds made fact passes same (x ∷ xs) = by_test (passes x) (any_kept holds made fact passes same xs)
  where
    by_test : (b : Bool) → list_any holds (map made (filter passes xs)) ≡ list_any (λ y. fact y && passes y) xs
        → list_any holds (map made (if b then x ∷ filter passes xs else filter passes xs)) ≡ ((fact x && b) || list_any (λ y. fact y && passes y) xs)
    by_test true rest = rw (same x, rest) (by_fact (fact x))
      where
        by_fact : (c : Bool) → (c || list_any (λ y. fact y && passes y) xs) ≡ ((c && true) || list_any (λ y. fact y && passes y) xs)
        by_fact true = refl
        by_fact false = refl
    by_test false rest = rw rest (by_fact (fact x))
      where
        by_fact : (c : Bool) → list_any (λ y. fact y && passes y) xs ≡ ((c && false) || list_any (λ y. fact y && passes y) xs)
        by_fact true = refl
        by_fact false = refl

module _ (universe : Universe) (m : Structure) (reading : Reading) (v : ℕ → Bool) (reads : (p : ℕ) (vs : List ℤ) → leaf_truth v (reading p vs) ≡ m p vs) where
  true_in-bodies : (env : List ℤ) (fs : List Formula) → list_all (true_in v) (map (folded universe reading env true) fs) ≡ list_all (truth universe m env) fs
  true_in-bodies env [] = refl
  true_in-bodies env (f ∷ fs) = rw (true_in-folded universe m reading v reads env true f, true_in-bodies env fs) refl

  true_in-instance : (path : Path) (env : List ℤ) → true_in v (instance_tree universe reading path env) ≡ list_all (truth universe m env) (bodies path.steps)
  true_in-instance path env = true_in-conj v (map (folded universe reading env true) (bodies path.steps)) ∙ true_in-bodies env (bodies path.steps)

  module _ (p : ℕ) (vs : List ℤ) where
    path-truth : (path : Path) → list_any (true_in v) (path_trees universe reading p vs path) ≡ path_supports universe m p vs [] path
    path-truth path = any_kept (true_in v) (instance_tree universe reading path) (λ env. list_all (truth universe m env) (bodies path.steps)) (is_head universe p vs path) (true_in-instance path) (instances universe [] path.steps)

    paths-truth : (qs : List Path) → list_any (true_in v) (flat_map (path_trees universe reading p vs) qs) ≡ list_any (path_supports universe m p vs []) qs
    paths-truth [] = refl
    paths-truth (q ∷ qs) = list_any-append (true_in v) (path_trees universe reading p vs q) (flat_map (path_trees universe reading p vs) qs) ∙ (rw (path-truth q, paths-truth qs) refl)

    pub true_in-scope_of : (sentences : List Formula) → true_in v (scope_of universe reading sentences p vs) ≡ is_supported universe m sentences p vs
    true_in-scope_of sentences =
        true_in-disj v (flat_map (path_trees universe reading p vs) (flat_map paths sentences))
        ∙ (paths-truth (flat_map paths sentences)
        ∙ supported_by_paths universe m p vs sentences)
