-- Trees are the same under two readings that agree on the predicates that occur.
use Rattle.std.proofs.Common.{◌≡◌, ℕ, suc, Bool, true, false, not, ◌&&◌, List, [], ◌∷◌, ℤ, map, filter, refl, ap, ◌∙◌}
use Rattle.std.proofs.Math.Path.{fun_ext}
use Rattle.std.specs.List.{list_all, flat_map}
use Rattle.std.proofs.lemmas.List.Folds.{list_all-append}
use Rattle.ec_logic.specs.Tree.{Formula, verum, falsum, atom, equal, less, negation, all_of, any_of, implies, iff, for_all, exists, Formulas, no_formulas, formula}
use Rattle.ec_logic.specs.Universe.{Universe}
use Rattle.ec_logic.specs.Value.{values}
use Rattle.ec_logic.specs.Place.{kept_values}
use Rattle.ec_logic.specs.Shift.{shifted, shifted_each}
use Rattle.ec_logic.specs.ClauseTree.{only_has, only_have, is_clause, are_clauses}
use Rattle.ec_logic.specs.Paths.{binder, body, Path, under, paths, paths_of, instances, binders, bodies}
use Rattle.ec_logic.proofs.Tests.{and_parts}
use Rattle.ec_folding.specs.Join.{join, conj, disj}
use Rattle.ec_grounding.specs.Folded.{Reading, leaf_tree, folded, folded_each}
use Rattle.ec_grounding.specs.Scope.{is_head, path_trees, scope_of}

module _ (test : ℕ → Bool) where
  mutual
    only_has-shifted : (from by : ℕ) (f : Formula) → only_has test (shifted from by f) ≡ only_has test f
    only_has-shifted from by verum = refl
    only_has-shifted from by falsum = refl
    only_has-shifted from by (atom p ts) = refl
    only_has-shifted from by (equal a b) = refl
    only_has-shifted from by (less a b) = refl
    only_has-shifted from by (negation f) = only_has-shifted from by f
    only_has-shifted from by (all_of fs) = only_have-shifted from by fs
    only_has-shifted from by (any_of fs) = only_have-shifted from by fs
    only_has-shifted from by (implies f g) = rw (only_has-shifted from by f, only_has-shifted from by g) refl
    only_has-shifted from by (iff f g) = rw (only_has-shifted from by f, only_has-shifted from by g) refl
    only_has-shifted from by (for_all s f) = only_has-shifted (suc from) by f
    only_has-shifted from by (exists s f) = only_has-shifted (suc from) by f

    only_have-shifted : (from by : ℕ) (fs : Formulas) → only_have test (shifted_each from by fs) ≡ only_have test fs
    only_have-shifted from by no_formulas = refl
    only_have-shifted from by (formula f fs) = rw (only_has-shifted from by f, only_have-shifted from by fs) refl

  -- whether the bodies of a path have such predicates alone
  abbrev pub has_such_bodies : Path → Bool
  has_such_bodies path = list_all (only_has test) (bodies path.steps)

  under_body : (f : Formula) → only_has test f ≡ true → (qs : List Path) → list_all has_such_bodies qs ≡ true → list_all has_such_bodies (map (under (body f)) qs) ≡ true
  under_body f e [] h = refl
  under_body f e (q ∷ qs) h = let both = and_parts (has_such_bodies q) (list_all has_such_bodies qs) h in rw (only_has-shifted 0 (binders q.steps) f, e, both.0, under_body f e qs both.1) refl

  under_binder : (s : ℕ) (f : Formula) (qs : List Path) → list_all has_such_bodies qs ≡ true → list_all has_such_bodies (map (under (binder s f)) qs) ≡ true
  under_binder s f [] h = refl
  under_binder s f (q ∷ qs) h = let both = and_parts (has_such_bodies q) (list_all has_such_bodies qs) h in rw (both.0, under_binder s f qs both.1) refl

  both_true : (a b : Bool) → a ≡ true → b ≡ true → (a && b) ≡ true
  both_true a b e g = rw (e, g) refl

  module _ (head : ℕ → Bool) where
    mutual
      clause_bodies : (f : Formula) → is_clause head (only_has test) f ≡ true → list_all has_such_bodies (paths f) ≡ true
      clause_bodies verum h = refl
      clause_bodies falsum h = refl
      clause_bodies (atom p ts) h = refl
      clause_bodies (equal a b) h = refl
      clause_bodies (less a b) h = refl
      clause_bodies (negation f) h = refl
      clause_bodies (all_of fs) h = clauses_bodies fs h
      clause_bodies (any_of fs) h = refl
      clause_bodies (implies f g) h = let both = and_parts (only_has test f) (is_clause head (only_has test) g) h in under_body f both.0 (paths g) (clause_bodies g both.1)
      clause_bodies (iff f g) h = refl
      clause_bodies (for_all s f) h = under_binder s f (paths f) (clause_bodies f h)
      clause_bodies (exists s f) h = refl

      clauses_bodies : (fs : Formulas) → are_clauses head (only_has test) fs ≡ true → list_all has_such_bodies (paths_of fs) ≡ true
      clauses_bodies no_formulas h = refl
      clauses_bodies (formula f fs) h =
          let both = and_parts (is_clause head (only_has test) f) (are_clauses head (only_has test) fs) h in
          list_all-append has_such_bodies (paths f) (paths_of fs) ∙ both_true (list_all has_such_bodies (paths f)) (list_all has_such_bodies (paths_of fs)) (clause_bodies f both.0) (clauses_bodies fs both.1)

    pub sentence_bodies : (fs : List Formula) → list_all (is_clause head (only_has test)) fs ≡ true → list_all has_such_bodies (flat_map paths fs) ≡ true
    sentence_bodies [] h = refl
    sentence_bodies (f ∷ fs) h =
        let both = and_parts (is_clause head (only_has test) f) (list_all (is_clause head (only_has test)) fs) h in
        list_all-append has_such_bodies (paths f) (flat_map paths fs) ∙ both_true (list_all has_such_bodies (paths f)) (list_all has_such_bodies (flat_map paths fs)) (clause_bodies f both.0) (sentence_bodies fs both.1)

  module _ (universe : Universe) (one other : Reading) (same : (p : ℕ) (vs : List ℤ) → test p ≡ true → one p vs ≡ other p vs) where
    mutual
      pub same_folded : (env : List ℤ) (sign : Bool) (f : Formula) → only_has test f ≡ true → folded universe one env sign f ≡ folded universe other env sign f
      same_folded env sign verum h = refl
      same_folded env sign falsum h = refl
      same_folded env sign (atom p ts) h = ap (leaf_tree sign) (same p (values universe env ts) h)
      same_folded env sign (equal a b) h = refl
      same_folded env sign (less a b) h = refl
      same_folded env sign (negation f) h = same_folded env (not sign) f h
      same_folded env sign (all_of fs) h = ap (join sign) (same_each env sign fs h)
      same_folded env sign (any_of fs) h = ap (join (not sign)) (same_each env sign fs h)
      same_folded env sign (implies f g) h =
          let both = and_parts (only_has test f) (only_has test g) h in
          rw (same_folded env (not sign) f both.0, same_folded env sign g both.1) refl
      same_folded env sign (iff f g) h =
          let both = and_parts (only_has test f) (only_has test g) h in
          rw (same_folded env (not sign) f both.0, same_folded env true g both.1, same_folded env sign f both.0, same_folded env false g both.1) refl
      same_folded env sign (for_all s f) h = ap (λ tree. join sign (map tree (kept_values universe env s f))) (fun_ext (λ v. same_folded (v ∷ env) sign f h))
      same_folded env sign (exists s f) h = ap (λ tree. join (not sign) (map tree (kept_values universe env s f))) (fun_ext (λ v. same_folded (v ∷ env) sign f h))

      same_each : (env : List ℤ) (sign : Bool) (fs : Formulas) → only_have test fs ≡ true → folded_each universe one env sign fs ≡ folded_each universe other env sign fs
      same_each env sign no_formulas h = refl
      same_each env sign (formula f fs) h =
          let both = and_parts (only_has test f) (only_have test fs) h in
          rw (same_folded env sign f both.0, same_each env sign fs both.1) refl

    same_bodies : (env : List ℤ) (fs : List Formula) → list_all (only_has test) fs ≡ true → map (folded universe one env true) fs ≡ map (folded universe other env true) fs
    same_bodies env [] h = refl
    same_bodies env (f ∷ fs) h =
        let both = and_parts (only_has test f) (list_all (only_has test) fs) h in
        rw (same_folded env true f both.0, same_bodies env fs both.1) refl

    module _ (p : ℕ) (vs : List ℤ) where
      same_path : (path : Path) → has_such_bodies path ≡ true → path_trees universe one p vs path ≡ path_trees universe other p vs path
      same_path path h = ap (λ tree. map tree (filter (is_head universe p vs path) (instances universe [] path.steps))) (fun_ext (λ env. ap conj (same_bodies env (bodies path.steps) h)))

      same_paths : (qs : List Path) → list_all has_such_bodies qs ≡ true → flat_map (path_trees universe one p vs) qs ≡ flat_map (path_trees universe other p vs) qs
      same_paths [] h = refl
      same_paths (q ∷ qs) h =
          let both = and_parts (has_such_bodies q) (list_all has_such_bodies qs) h in
          rw (same_path q both.0, same_paths qs both.1) refl

      pub same_scope : (head : ℕ → Bool) (sentences : List Formula) → list_all (is_clause head (only_has test)) sentences ≡ true → scope_of universe one sentences p vs ≡ scope_of universe other sentences p vs
      same_scope head sentences h = ap disj (same_paths (flat_map paths sentences) (sentence_bodies head sentences h))
