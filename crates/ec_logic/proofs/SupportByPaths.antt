-- Support by recursion on a clause tree is support by the instances of its paths.
use Rattle.std.proofs.Common.{◌≡◌, ◌↔◌, ℕ, suc, ◌+◌, ◌==◌, Bool, true, false, ◌&&◌, ◌||◌, List, [], ◌∷◌, ◌++◌, length, map, ℤ, refl, sym, ap, arith, ◌∙◌}
use Rattle.std.proofs.Math.Path.{fun_ext}
use Rattle.std.proofs.lemmas.List.Folds.{list_any-append}
use Rattle.std.specs.List.{list_all, list_any, flat_map}
use Rattle.ec_logic.specs.Tree.{Formula, verum, falsum, atom, equal, less, negation, all_of, any_of, implies, iff, for_all, exists, Formulas, no_formulas, formula}
use Rattle.ec_logic.specs.Universe.{Universe}
use Rattle.ec_logic.specs.Value.{values, same_values}
use Rattle.ec_logic.specs.Place.{kept_values}
use Rattle.ec_logic.specs.Truth.{Structure, truth}
use Rattle.ec_logic.specs.Shift.{shifted}
use Rattle.ec_logic.specs.Theory.{Group}
use Rattle.ec_logic.specs.ClauseTree.{supports, one_supports, is_supported}
use Rattle.ec_logic.specs.Paths.{Step, binder, body, Path, under, paths, paths_of, instances, binders, bodies, path_supports}
use Rattle.ec_logic.specs.Completed.{IsCompletedIn, IsCompletedByPaths}
use Rattle.ec_logic.proofs.Shifting.{truth-shifted}

any_map : {A B : Type 0} (t : B → Bool) (h : A → B) (xs : List A) → list_any t (map h xs) ≡ list_any (λ x. t (h x)) xs
any_map t h [] = refl
any_map t h (x ∷ xs) = ap (λ b. t (h x) || b) (any_map t h xs)

any_flat_map : {A B : Type 0} (t : B → Bool) (h : A → List B) (xs : List A) → list_any t (flat_map h xs) ≡ list_any (λ x. list_any t (h x)) xs
any_flat_map t h [] = refl
any_flat_map t h (x ∷ xs) = list_any-append t (h x) (flat_map h xs) ∙ ap (λ b. list_any t (h x) || b) (any_flat_map t h xs)

or_false : (b : Bool) → (b || false) ≡ b
or_false true = refl
or_false false = refl

and_or : (b c d : Bool) → ((b && c) || (b && d)) ≡ (b && (c || d))
and_or true c d = refl
and_or false c d = refl

and_false : (b : Bool) → (b && false) ≡ false
and_false true = refl
and_false false = refl

any_and : {A : Type 0} (b : Bool) (t : A → Bool) (xs : List A) → list_any (λ x. b && t x) xs ≡ (b && list_any t xs)
any_and b t [] = sym (and_false b)
any_and b t (x ∷ xs) = rw (any_and b t xs) (and_or b (t x) (list_any t xs))

or_swap : (a b c d : Bool) → ((a || b) || (c || d)) ≡ ((a || c) || (b || d))
or_swap true b c d = or_true c (b || d)
  where
    or_true : (c e : Bool) → true ≡ ((true || c) || e)
    or_true c e = refl
or_swap false true true d = refl
or_swap false true false d = refl
or_swap false false true d = refl
or_swap false false false d = refl

any_or : {A : Type 0} (s t : A → Bool) (xs : List A) → list_any (λ x. s x || t x) xs ≡ (list_any s xs || list_any t xs)
any_or s t [] = refl
any_or s t (x ∷ xs) = rw (any_or s t xs) (or_swap (s x) (t x) (list_any s xs) (list_any t xs))

any_none : {A : Type 0} (xs : List A) → list_any (λ x. false) xs ≡ false
any_none [] = refl
any_none (x ∷ xs) = any_none xs

any_swap : {A B : Type 0} (t : A → B → Bool) (xs : List A) (ys : List B) → list_any (λ x. list_any (t x) ys) xs ≡ list_any (λ y. list_any (λ x. t x y) xs) ys
any_swap t [] ys = sym (any_none ys)
any_swap t (x ∷ xs) ys = rw (any_swap t xs ys) (sym (any_or (t x) (λ y. list_any (λ x. t x y) xs) ys))

and_assoc : (a b c : Bool) → ((a && b) && c) ≡ (a && (b && c))
and_assoc true b c = refl
and_assoc false b c = refl

and_or_false : (b c : Bool) → ((b && c) || false) ≡ (b && (c || false))
and_or_false true c = refl
and_or_false false c = refl

module _ (universe : Universe) (m : Structure) where
  -- a body reads the same under the binders below it
  body_out : (new env : List ℤ) (steps : List Step) (f : Formula) (t : List ℤ → Bool) → list_any (λ e. truth universe m e (shifted 0 (binders steps + length new) f) && t e) (instances universe (new ++ env) steps) ≡ (truth universe m env f && list_any t (instances universe (new ++ env) steps))
  body_out new env [] f t = let e : 0 + length new ≡ length new = omega arith in rw (e, truth-shifted universe m new env [] f) (and_or_false (truth universe m env f) (t (new ++ env)))
  body_out new env (binder s g ∷ steps) f t =
      let count : binders steps + 1 + length new ≡ binders steps + suc (length new) = omega arith in
      rw count (
      any_flat_map (λ e. truth universe m e (shifted 0 (binders steps + suc (length new)) f) && t e) (λ v. instances universe (v ∷ (new ++ env)) steps) (kept_values universe (new ++ env) s g)
      ∙ (ap (λ x. list_any x (kept_values universe (new ++ env) s g)) (fun_ext (λ v. body_out (v ∷ new) env steps f t))
      ∙ (any_and (truth universe m env f) (λ v. list_any t (instances universe (v ∷ (new ++ env)) steps)) (kept_values universe (new ++ env) s g)
      ∙ ap (λ b. truth universe m env f && b) (sym (any_flat_map t (λ v. instances universe (v ∷ (new ++ env)) steps) (kept_values universe (new ++ env) s g)))))
      )
  body_out new env (body g ∷ steps) f t = body_out new env steps f t

  module _ (p : ℕ) (vs : List ℤ) where
    abbrev here : Path → List ℤ → Bool
    here q e = list_all (truth universe m e) (bodies q.steps) && ((q.predicate == p) && same_values (values universe e q.args) vs)

    under_body : (env : List ℤ) (f : Formula) (q : Path) → path_supports universe m p vs env (under (body f) q) ≡ (truth universe m env f && path_supports universe m p vs env q)
    under_body env f q =
        let count : binders q.steps + 0 ≡ binders q.steps = omega arith in
        let out = rw count at (body_out [] env q.steps f (here q)) in
        ap (λ t. list_any t (instances universe env q.steps)) (fun_ext (λ e. and_assoc (truth universe m e (shifted 0 (binders q.steps) f)) (list_all (truth universe m e) (bodies q.steps)) ((q.predicate == p) && same_values (values universe e q.args) vs)))
        ∙ out

    under_binder : (env : List ℤ) (s : ℕ) (f : Formula) (q : Path) → path_supports universe m p vs env (under (binder s f) q) ≡ list_any (λ v. path_supports universe m p vs (v ∷ env) q) (kept_values universe env s f)
    under_binder env s f q = any_flat_map (here q) (λ v. instances universe (v ∷ env) q.steps) (kept_values universe env s f)

    mutual
      -- a tuple is supported exactly where some path has an instance with it as head and all bodies true
      pub supports_by_paths : (env : List ℤ) (f : Formula) → list_any (path_supports universe m p vs env) (paths f) ≡ supports universe m p vs env f
      supports_by_paths env verum = refl
      supports_by_paths env falsum = refl
      supports_by_paths env (atom q ts) = or_false (((q == p) && same_values (values universe env ts) vs) || false) ∙ or_false ((q == p) && same_values (values universe env ts) vs)
      supports_by_paths env (equal a b) = refl
      supports_by_paths env (less a b) = refl
      supports_by_paths env (negation f) = refl
      supports_by_paths env (all_of fs) = one_by_paths env fs
      supports_by_paths env (any_of fs) = refl
      supports_by_paths env (implies f g) =
          any_map (path_supports universe m p vs env) (under (body f)) (paths g)
          ∙ (ap (λ t. list_any t (paths g)) (fun_ext (λ q. under_body env f q))
          ∙ (any_and (truth universe m env f) (path_supports universe m p vs env) (paths g)
          ∙ ap (λ b. truth universe m env f && b) (supports_by_paths env g)))
      supports_by_paths env (iff f g) = refl
      supports_by_paths env (for_all s f) =
          any_map (path_supports universe m p vs env) (under (binder s f)) (paths f)
          ∙ (ap (λ t. list_any t (paths f)) (fun_ext (λ q. under_binder env s f q))
          ∙ (any_swap (λ q v. path_supports universe m p vs (v ∷ env) q) (paths f) (kept_values universe env s f)
          ∙ ap (λ t. list_any t (kept_values universe env s f)) (fun_ext (λ v. supports_by_paths (v ∷ env) f))))
      supports_by_paths env (exists s f) = refl

      one_by_paths : (env : List ℤ) (fs : Formulas) → list_any (path_supports universe m p vs env) (paths_of fs) ≡ one_supports universe m p vs env fs
      one_by_paths env no_formulas = refl
      one_by_paths env (formula f fs) =
          list_any-append (path_supports universe m p vs env) (paths f) (paths_of fs)
          ∙ (ap (λ b. b || list_any (path_supports universe m p vs env) (paths_of fs)) (supports_by_paths env f)
          ∙ ap (λ b. supports universe m p vs env f || b) (one_by_paths env fs))

-- a group's sentences support a tuple exactly where one of their paths does
pub supported_by_paths : (universe : Universe) (m : Structure) (p : ℕ) (vs : List ℤ) (fs : List Formula) → list_any (path_supports universe m p vs []) (flat_map paths fs) ≡ is_supported universe m fs p vs
supported_by_paths universe m p vs [] = refl
supported_by_paths universe m p vs (f ∷ fs) = list_any-append (path_supports universe m p vs []) (paths f) (flat_map paths fs) ∙ (rw (supports_by_paths universe m p vs [] f, supported_by_paths universe m p vs fs) refl)

-- completed models, said by support and by paths
pub completed_by_paths : (universe : Universe) (group : Group) (m : Structure) → IsCompletedIn universe group m ↔ IsCompletedByPaths universe group m
completed_by_paths universe group m = (λ c p vs i. c p vs i ∙ sym (supported_by_paths universe m p vs group.sentences), λ c p vs i. c p vs i ∙ supported_by_paths universe m p vs group.sentences)
