-- Folds, and trees of atoms, have a constant only as the whole tree.
use Rattle.std.proofs.Common.{◌≡◌, ℕ, Bool, true, false, not, List, [], ◌∷◌, ℤ, map, filter, refl, ◌∙◌}
use Rattle.std.specs.Prelude.{int_lt}
use Rattle.std.specs.Ordering.{int_eq}
use Rattle.std.specs.List.{list_all, flat_map}
use Rattle.std.proofs.lemmas.List.Folds.{list_all-append}
use Rattle.ec_logic.specs.Tree.{Formula, verum, falsum, atom, equal, less, negation, all_of, any_of, implies, iff, for_all, exists, Formulas, no_formulas, formula}
use Rattle.ec_logic.specs.Universe.{Universe}
use Rattle.ec_logic.specs.Value.{value, values}
use Rattle.ec_logic.specs.Place.{kept_values}
use Rattle.ec_logic.specs.Paths.{Path, paths, instances, bodies}
use Rattle.ec_folding.specs.Tree.{Tree, under_sign}
use Rattle.ec_folding.specs.Join.{constant, join}
use Rattle.ec_folding.specs.Constants.{is_constant_at_top_only}
use Rattle.ec_folding.proofs.JoinConstants.{is_constant_at_top_only-join}
use Rattle.ec_grounding.specs.Folded.{Leaf, fixed, numbered, Reading, leaf_tree, folded, folded_each}
use Rattle.ec_grounding.specs.Scope.{is_head, instance_tree, path_trees, scope_of}

top_constant : (b : Bool) → is_constant_at_top_only (constant b) ≡ true
top_constant true = refl
top_constant false = refl

top_leaf : (sign : Bool) (leaf : Leaf) → is_constant_at_top_only (leaf_tree sign leaf) ≡ true
top_leaf sign (fixed b) = top_constant (under_sign sign b)
top_leaf sign (numbered k) = refl

top_mapped : {A : Type 0} (tree : A → Tree) → ((x : A) → is_constant_at_top_only (tree x) ≡ true) → (xs : List A) → list_all is_constant_at_top_only (map tree xs) ≡ true
top_mapped tree h [] = refl
top_mapped tree h (x ∷ xs) = rw (h x, top_mapped tree h xs) refl

top_two : (sign : Bool) (t u : Tree) → is_constant_at_top_only t ≡ true → is_constant_at_top_only u ≡ true → is_constant_at_top_only (join sign (t ∷ u ∷ [])) ≡ true
top_two sign t u h k = is_constant_at_top_only-join sign (t ∷ u ∷ []) (rw (h, k) refl)

module _ (universe : Universe) (reading : Reading) where
  mutual
    pub is_constant_at_top_only-folded : (env : List ℤ) (sign : Bool) (f : Formula) → is_constant_at_top_only (folded universe reading env sign f) ≡ true
    is_constant_at_top_only-folded env sign verum = top_constant sign
    is_constant_at_top_only-folded env sign falsum = top_constant (not sign)
    is_constant_at_top_only-folded env sign (atom p ts) = top_leaf sign (reading p (values universe env ts))
    is_constant_at_top_only-folded env sign (equal a b) = top_constant (under_sign sign (int_eq (value universe env a) (value universe env b)))
    is_constant_at_top_only-folded env sign (less a b) = top_constant (under_sign sign (int_lt (value universe env a) (value universe env b)))
    is_constant_at_top_only-folded env sign (negation f) = is_constant_at_top_only-folded env (not sign) f
    is_constant_at_top_only-folded env sign (all_of fs) = is_constant_at_top_only-join sign (folded_each universe reading env sign fs) (top_each env sign fs)
    is_constant_at_top_only-folded env sign (any_of fs) = is_constant_at_top_only-join (not sign) (folded_each universe reading env sign fs) (top_each env sign fs)
    is_constant_at_top_only-folded env sign (implies f g) =
        top_two (not sign) (folded universe reading env (not sign) f) (folded universe reading env sign g) (is_constant_at_top_only-folded env (not sign) f) (is_constant_at_top_only-folded env sign g)
    is_constant_at_top_only-folded env sign (iff f g) =
        top_two true (join false (folded universe reading env (not sign) f ∷ folded universe reading env true g ∷ [])) (join false (folded universe reading env sign f ∷ folded universe reading env false g ∷ []))
        (top_two false (folded universe reading env (not sign) f) (folded universe reading env true g) (is_constant_at_top_only-folded env (not sign) f) (is_constant_at_top_only-folded env true g))
        (top_two false (folded universe reading env sign f) (folded universe reading env false g) (is_constant_at_top_only-folded env sign f) (is_constant_at_top_only-folded env false g))
    is_constant_at_top_only-folded env sign (for_all s f) =
        is_constant_at_top_only-join sign (map (λ x. folded universe reading (x ∷ env) sign f) (kept_values universe env s f))
        (top_mapped (λ x. folded universe reading (x ∷ env) sign f) (λ x. is_constant_at_top_only-folded (x ∷ env) sign f) (kept_values universe env s f))
    is_constant_at_top_only-folded env sign (exists s f) =
        is_constant_at_top_only-join (not sign) (map (λ x. folded universe reading (x ∷ env) sign f) (kept_values universe env s f))
        (top_mapped (λ x. folded universe reading (x ∷ env) sign f) (λ x. is_constant_at_top_only-folded (x ∷ env) sign f) (kept_values universe env s f))

    top_each : (env : List ℤ) (sign : Bool) (fs : Formulas) → list_all is_constant_at_top_only (folded_each universe reading env sign fs) ≡ true
    top_each env sign no_formulas = refl
    top_each env sign (formula f fs) = rw (is_constant_at_top_only-folded env sign f, top_each env sign fs) refl

  top_instance : (path : Path) (env : List ℤ) → is_constant_at_top_only (instance_tree universe reading path env) ≡ true
  top_instance path env =
      is_constant_at_top_only-join true (map (folded universe reading env true) (bodies path.steps))
      (top_mapped (folded universe reading env true) (is_constant_at_top_only-folded env true) (bodies path.steps))

  module _ (p : ℕ) (vs : List ℤ) where
    top_paths : (qs : List Path) → list_all is_constant_at_top_only (flat_map (path_trees universe reading p vs) qs) ≡ true
    top_paths [] = refl
    top_paths (q ∷ qs) =
        list_all-append is_constant_at_top_only (path_trees universe reading p vs q) (flat_map (path_trees universe reading p vs) qs)
        ∙ (rw (top_mapped (instance_tree universe reading q) (top_instance q) (filter (is_head universe p vs q) (instances universe [] q.steps)), top_paths qs) refl)

    pub is_constant_at_top_only-scope_of : (sentences : List Formula) → is_constant_at_top_only (scope_of universe reading sentences p vs) ≡ true
    is_constant_at_top_only-scope_of sentences = is_constant_at_top_only-join false (flat_map (path_trees universe reading p vs) (flat_map paths sentences)) (top_paths (flat_map paths sentences))
