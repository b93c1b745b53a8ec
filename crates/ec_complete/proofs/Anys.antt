-- Tests of some item of a list, and a body that is read under the binders below it.
use Rattle.std.proofs.Common.{◌≡◌, suc, ◌+◌, Bool, true, false, ◌&&◌, ◌||◌, List, [], ◌∷◌, ◌++◌, length, map, ℤ, refl, sym, ap, arith, ◌∙◌}
use Rattle.std.proofs.Math.Path.{fun_ext}
use Rattle.std.proofs.lemmas.List.Folds.{list_any-append}
use Rattle.std.specs.List.{list_any, flat_map}
use Rattle.ec_logic.specs.Tree.{Formula}
use Rattle.ec_logic.specs.Universe.{Universe}
use Rattle.ec_logic.specs.Place.{kept_values}
use Rattle.ec_logic.specs.Truth.{Structure, truth}
use Rattle.ec_logic.specs.Shift.{shifted}
use Rattle.ec_logic.specs.Paths.{Step, binder, body, instances, binders}
use Rattle.ec_logic.proofs.Shifting.{truth-shifted}

pub any_map : {A B : Type 0} (t : B → Bool) (h : A → B) (xs : List A) → list_any t (map h xs) ≡ list_any (λ x. t (h x)) xs
any_map t h [] = refl
any_map t h (x ∷ xs) = ap (λ b. t (h x) || b) (any_map t h xs)

pub any_flat_map : {A B : Type 0} (t : B → Bool) (h : A → List B) (xs : List A) → list_any t (flat_map h xs) ≡ list_any (λ x. list_any t (h x)) xs
any_flat_map t h [] = refl
any_flat_map t h (x ∷ xs) = list_any-append t (h x) (flat_map h xs) ∙ ap (λ b. list_any t (h x) || b) (any_flat_map t h xs)

pub or_false : (b : Bool) → (b || false) ≡ b
or_false true = refl
or_false false = refl

and_or : (b c d : Bool) → ((b && c) || (b && d)) ≡ (b && (c || d))
and_or true c d = refl
and_or false c d = refl

and_false : (b : Bool) → (b && false) ≡ false
and_false true = refl
and_false false = refl

pub any_and : {A : Type 0} (b : Bool) (t : A → Bool) (xs : List A) → list_any (λ x. b && t x) xs ≡ (b && list_any t xs)
any_and b t [] = sym (and_false b)
any_and b t (x ∷ xs) = rw (any_and b t xs) (and_or b (t x) (list_any t xs))

pub and_assoc : (a b c : Bool) → ((a && b) && c) ≡ (a && (b && c))
and_assoc true b c = refl
and_assoc false b c = refl

and_or_false : (b c : Bool) → ((b && c) || false) ≡ (b && (c || false))
and_or_false true c = refl
and_or_false false c = refl

module _ (universe : Universe) (m : Structure) where
  -- a body reads the same under the binders below it
  pub body_out : (new env : List ℤ) (steps : List Step) (f : Formula) (t : List ℤ → Bool) → list_any (λ e. truth universe m e (shifted 0 (binders steps + length new) f) && t e) (instances universe (new ++ env) steps) ≡ (truth universe m env f && list_any t (instances universe (new ++ env) steps))
  body_out new env [] f t = let e : 0 + length new ≡ length new = omega arith in rw (e, truth-shifted universe m new env [] f) (and_or_false (truth universe m env f) (t (new ++ env)))
  body_out new env (binder s g ∷ steps) f t =
      let count : binders steps + 1 + length new ≡ binders steps + suc (length new) = omega arith in
      rw count (
      any_flat_map (λ e. truth universe m e (shifted 0 (binders steps + suc (length new)) f) && t e) (λ v. instances universe (v ∷ (new ++ env)) steps) (kept_values universe (new ++ env) s g)
      ∙ (ap (λ x. list_any x (kept_values universe (new ++ env) s g)) (fun_ext (λ v. body_out (v ∷ new) env steps f t))
      ∙ (any_and (truth universe m env f) (λ v. list_any t (instances universe (v ∷ (new ++ env)) steps)) (kept_values universe (new ++ env) s g)
      ∙ ap (λ b. truth universe m env f && b) (sym (any_flat_map t (λ v. instances universe (v ∷ (new ++ env)) steps) (kept_values universe (new ++ env) s g)))))
      )
  body_out new env (body g ∷ steps) f t = body_out new env steps f t

pub and_true : (b : Bool) → (b && true) ≡ b
and_true true = refl
and_true false = refl
