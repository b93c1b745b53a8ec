-- A clause tree is true exactly where each instance of its paths with true bodies has a true head.
use Rattle.std.proofs.Common.{◌≡◌, ℕ, suc, ◌+◌, Bool, true, false, not, ◌&&◌, ◌||◌, List, [], ◌∷◌, ◌++◌, length, ℤ, refl, sym, ap, arith, ◌∙◌}
use Rattle.std.proofs.Math.Path.{fun_ext}
use Rattle.std.proofs.lemmas.List.Folds.{list_all-append, list_all-map}
use Rattle.std.specs.List.{list_all, flat_map}
use Rattle.ec_logic.specs.Tree.{Formula, verum, falsum, atom, equal, less, negation, all_of, any_of, implies, iff, for_all, exists, Formulas, no_formulas, formula}
use Rattle.ec_logic.specs.Universe.{Universe}
use Rattle.ec_logic.specs.Value.{values}
use Rattle.ec_logic.specs.Place.{kept_values}
use Rattle.ec_logic.specs.Truth.{Structure, truth, all_true}
use Rattle.ec_logic.specs.Shift.{shifted}
use Rattle.ec_logic.specs.ClauseTree.{is_clause, are_clauses}
use Rattle.ec_logic.specs.Paths.{Step, binder, body, Path, under, paths, paths_of, instances, binders, bodies, path_holds}
use Rattle.ec_logic.proofs.Tests.{and_parts}
use Rattle.ec_logic.proofs.Shifting.{truth-shifted}

all_flat_map : {A B : Type 0} (t : B → Bool) (h : A → List B) (xs : List A) → list_all t (flat_map h xs) ≡ list_all (λ x. list_all t (h x)) xs
all_flat_map t h [] = refl
all_flat_map t h (x ∷ xs) = list_all-append t (h x) (flat_map h xs) ∙ ap (λ b. list_all t (h x) && b) (all_flat_map t h xs)

or_true : (b : Bool) → (b || true) ≡ true
or_true true = refl
or_true false = refl

or_and : (b c d : Bool) → ((b || c) && (b || d)) ≡ (b || (c && d))
or_and true c d = refl
or_and false c d = refl

all_or : {A : Type 0} (b : Bool) (t : A → Bool) (xs : List A) → list_all (λ x. b || t x) xs ≡ (b || list_all t xs)
all_or b t [] = sym (or_true b)
all_or b t (x ∷ xs) = rw (all_or b t xs) (or_and b (t x) (list_all t xs))

and_swap : (a b c d : Bool) → ((a && b) && (c && d)) ≡ ((a && c) && (b && d))
and_swap false b c d = refl
and_swap true false false d = refl
and_swap true false true d = refl
and_swap true true false d = refl
and_swap true true true d = refl

all_and : {A : Type 0} (s t : A → Bool) (xs : List A) → list_all (λ x. s x && t x) xs ≡ (list_all s xs && list_all t xs)
all_and s t [] = refl
all_and s t (x ∷ xs) = rw (all_and s t xs) (and_swap (s x) (t x) (list_all s xs) (list_all t xs))

all_none : {A : Type 0} (xs : List A) → list_all (λ x. true) xs ≡ true
all_none [] = refl
all_none (x ∷ xs) = all_none xs

all_swap : {A B : Type 0} (t : A → B → Bool) (xs : List A) (ys : List B) → list_all (λ x. list_all (t x) ys) xs ≡ list_all (λ y. list_all (λ x. t x y) xs) ys
all_swap t [] ys = sym (all_none ys)
all_swap t (x ∷ xs) ys = rw (all_swap t xs ys) (sym (all_and (t x) (λ y. list_all (λ x. t x y) xs) ys))

or_and_true : (b c : Bool) → ((b || c) && true) ≡ (b || (c && true))
or_and_true true c = refl
or_and_true false c = refl

implied_by_both : (a b h : Bool) → (not (a && b) || h) ≡ (not a || (not b || h))
implied_by_both true b h = refl
implied_by_both false b h = refl

and_true : (b : Bool) → (b && true) ≡ b
and_true true = refl
and_true false = refl

module _ (universe : Universe) (m : Structure) where
  body_past : (new env : List ℤ) (steps : List Step) (f : Formula) (t : List ℤ → Bool) → list_all (λ e. not (truth universe m e (shifted 0 (binders steps + length new) f)) || t e) (instances universe (new ++ env) steps) ≡ (not (truth universe m env f) || list_all t (instances universe (new ++ env) steps))
  body_past new env [] f t = let e : 0 + length new ≡ length new = omega arith in rw (e, truth-shifted universe m new env [] f) (or_and_true (not (truth universe m env f)) (t (new ++ env)))
  body_past new env (binder s g ∷ steps) f t =
      let count : binders steps + 1 + length new ≡ binders steps + suc (length new) = omega arith in
      rw count (
      all_flat_map (λ e. not (truth universe m e (shifted 0 (binders steps + suc (length new)) f)) || t e) (λ v. instances universe (v ∷ (new ++ env)) steps) (kept_values universe (new ++ env) s g)
      ∙ (ap (λ x. list_all x (kept_values universe (new ++ env) s g)) (fun_ext (λ v. body_past (v ∷ new) env steps f t))
      ∙ (all_or (not (truth universe m env f)) (λ v. list_all t (instances universe (v ∷ (new ++ env)) steps)) (kept_values universe (new ++ env) s g)
      ∙ ap (λ b. not (truth universe m env f) || b) (sym (all_flat_map t (λ v. instances universe (v ∷ (new ++ env)) steps) (kept_values universe (new ++ env) s g)))))
      )
  body_past new env (body g ∷ steps) f t = body_past new env steps f t

  holds_here : Path → List ℤ → Bool
  holds_here q e = not (list_all (truth universe m e) (bodies q.steps)) || m q.predicate (values universe e q.args)

  under_body : (env : List ℤ) (f : Formula) (q : Path) → path_holds universe m env (under (body f) q) ≡ (not (truth universe m env f) || path_holds universe m env q)
  under_body env f q =
      let count : binders q.steps + 0 ≡ binders q.steps = omega arith in
      let out = rw count at (body_past [] env q.steps f (λ e. not (list_all (truth universe m e) (bodies q.steps)) || m q.predicate (values universe e q.args))) in
      ap (λ t. list_all t (instances universe env q.steps)) (fun_ext (λ e. implied_by_both (truth universe m e (shifted 0 (binders q.steps) f)) (list_all (truth universe m e) (bodies q.steps)) (m q.predicate (values universe e q.args))))
      ∙ out

  under_binder : (env : List ℤ) (s : ℕ) (f : Formula) (q : Path) → path_holds universe m env (under (binder s f) q) ≡ list_all (λ v. path_holds universe m (v ∷ env) q) (kept_values universe env s f)
  under_binder env s f q = all_flat_map (λ e. not (list_all (truth universe m e) (bodies q.steps)) || m q.predicate (values universe e q.args)) (λ v. instances universe (v ∷ env) q.steps) (kept_values universe env s f)

  module _ (head : ℕ → Bool) (form : Formula → Bool) where
    mutual
      -- a clause tree is true exactly where each path instance with true bodies has a true head
      pub truth_by_paths : (env : List ℤ) (f : Formula) → is_clause head form f ≡ true → truth universe m env f ≡ list_all (path_holds universe m env) (paths f)
      truth_by_paths env verum c = cc
      truth_by_paths env falsum c = cc
      truth_by_paths env (atom q ts) c = sym (and_true (m q (values universe env ts) && true) ∙ and_true (m q (values universe env ts)))
      truth_by_paths env (equal a b) c = cc
      truth_by_paths env (less a b) c = cc
      truth_by_paths env (negation f) c = cc
      truth_by_paths env (all_of fs) c = all_true_by_paths env fs c
      truth_by_paths env (any_of fs) c = cc
      truth_by_paths env (implies f g) c = sym (
          list_all-map (path_holds universe m env) (under (body f)) (paths g)
          ∙ (ap (λ t. list_all t (paths g)) (fun_ext (λ q. under_body env f q))
          ∙ (all_or (not (truth universe m env f)) (path_holds universe m env) (paths g)
          ∙ ap (λ b. not (truth universe m env f) || b) (sym (truth_by_paths env g (and_parts (form f) (is_clause head form g) c).1)))))
      truth_by_paths env (iff f g) c = cc
      truth_by_paths env (for_all s f) c = sym (
          list_all-map (path_holds universe m env) (under (binder s f)) (paths f)
          ∙ (ap (λ t. list_all t (paths f)) (fun_ext (λ q. under_binder env s f q))
          ∙ (all_swap (λ q v. path_holds universe m (v ∷ env) q) (paths f) (kept_values universe env s f)
          ∙ ap (λ t. list_all t (kept_values universe env s f)) (fun_ext (λ v. sym (truth_by_paths (v ∷ env) f c))))))
      truth_by_paths env (exists s f) c = cc

      all_true_by_paths : (env : List ℤ) (fs : Formulas) → are_clauses head form fs ≡ true → all_true universe m env fs ≡ list_all (path_holds universe m env) (paths_of fs)
      all_true_by_paths env no_formulas c = refl
      all_true_by_paths env (formula f fs) c =
          let both = and_parts (is_clause head form f) (are_clauses head form fs) c in
          sym (list_all-append (path_holds universe m env) (paths f) (paths_of fs)
          ∙ (ap (λ b. b && list_all (path_holds universe m env) (paths_of fs)) (sym (truth_by_paths env f both.0))
          ∙ ap (λ b. truth universe m env f && b) (sym (all_true_by_paths env fs both.1))))
