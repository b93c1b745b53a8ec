-- The trees of a path's instances, gone through step by step.
use Rattle.std.proofs.Common.{◌≡◌, ℕ, suc, ◌+◌, Bool, true, false, List, [], ◌∷◌, ◌++◌, length, map, filter, ℤ, refl, sym, ap, ◌∙◌, arith, append_assoc, if◌then◌else◌}
use Rattle.std.specs.List.{flat_map}
use Rattle.std.proofs.Math.Path.{fun_ext}
use Rattle.std.proofs.lemmas.List.{append-nil, map-append}
use Rattle.ec_logic.specs.Tree.{Formula}
use Rattle.ec_logic.specs.Universe.{Universe}
use Rattle.ec_logic.specs.Place.{kept_values}
use Rattle.ec_logic.specs.Shift.{shifted}
use Rattle.ec_logic.specs.Paths.{Step, binder, body, Path, instances, binders, bodies}
use Rattle.ec_folding.specs.Tree.{Tree}
use Rattle.ec_folding.specs.Join.{conj}
use Rattle.ec_grounding.specs.Folded.{Reading, folded}
use Rattle.ec_grounding.specs.Scope.{is_head, path_trees}
use Rattle.ec_grounding.specs.Walk.{walked}
use Rattle.ec_grounding.proofs.FoldedShifted.{folded-shifted}

module _ {A B : Type 0} (made : A → B) (test : A → Bool) where
  pub filter-append : (xs ys : List A) → filter test (xs ++ ys) ≡ filter test xs ++ filter test ys
  filter-append [] ys = refl
  filter-append (x ∷ xs) ys = by_test (test x) (filter-append xs ys)
    where
      by_test : (b : Bool) → filter test (xs ++ ys) ≡ filter test xs ++ filter test ys → (if b then x ∷ filter test (xs ++ ys) else filter test (xs ++ ys)) ≡ (if b then x ∷ filter test xs else filter test xs) ++ filter test ys
      by_test true h = ap (λ (zs : List A). x ∷ zs) h
      by_test false h = h

  pub kept_flat : {C : Type 0} (f : C → List A) (xs : List C) → map made (filter test (flat_map f xs)) ≡ flat_map (λ x. map made (filter test (f x))) xs
  kept_flat f [] = refl
  kept_flat f (x ∷ xs) =
      ap (map made) (filter-append (f x) (flat_map f xs))
      ∙ (map-append made (filter test (f x)) (filter test (flat_map f xs))
      ∙ ap (λ (ys : List B). map made (filter test (f x)) ++ ys) (kept_flat f xs))

module _ (universe : Universe) (reading : Reading) (p : ℕ) (vs : List ℤ) (path : Path) where
  -- the trees of the bodies below, under all binders
  abbrev below : List Step → List ℤ → List Tree
  below steps env = map (folded universe reading env true) (bodies steps)

  -- a body is folded the same under the binders below it
  body_out : (F : List ℤ → Tree → Tree) (new env : List ℤ) (f : Formula) (steps : List Step)
      → map (λ e. F e (folded universe reading e true (shifted 0 (binders steps + length new) f))) (filter (is_head universe p vs path) (instances universe (new ++ env) steps))
      ≡ map (λ e. F e (folded universe reading env true f)) (filter (is_head universe p vs path) (instances universe (new ++ env) steps))
  body_out F new env f [] =
      let none : 0 + length new ≡ length new = omega arith in
      rw none (at_last (is_head universe p vs path (new ++ env)))
    where
      at_last : (b : Bool) → map (λ e. F e (folded universe reading e true (shifted 0 (length new) f))) (if b then (new ++ env) ∷ [] else []) ≡ map (λ e. F e (folded universe reading env true f)) (if b then (new ++ env) ∷ [] else [])
      at_last true = ap (λ (t : Tree). F (new ++ env) t ∷ []) (folded-shifted universe reading new env [] true f)
      at_last false = refl
  body_out F new env f (binder s g ∷ steps) =
      let count : binders steps + 1 + length new ≡ binders steps + suc (length new) = omega arith in
      let test = is_head universe p vs path in
      let next = λ (v : ℤ). instances universe (v ∷ (new ++ env)) steps in
      rw count (
      kept_flat (λ e. F e (folded universe reading e true (shifted 0 (binders steps + suc (length new)) f))) test next (kept_values universe (new ++ env) s g)
      ∙ (ap (λ (h : ℤ → List Tree). flat_map h (kept_values universe (new ++ env) s g)) (fun_ext (λ v. body_out F (v ∷ new) env f steps))
      ∙ sym (kept_flat (λ e. F e (folded universe reading env true f)) test next (kept_values universe (new ++ env) s g)))
      )
  body_out F new env f (body g ∷ steps) = body_out F new env f steps

  walked_from : (env : List ℤ) (trees : List Tree) (steps : List Step)
      → walked universe reading p vs path env trees steps ≡ map (λ e. conj (trees ++ below steps e)) (filter (is_head universe p vs path) (instances universe env steps))
  walked_from env trees [] = at_last (is_head universe p vs path env)
    where
      at_last : (b : Bool) → (if b then conj trees ∷ [] else []) ≡ map (λ e. conj (trees ++ below [] e)) (if b then env ∷ [] else [])
      at_last true = ap (λ (ts : List Tree). conj ts ∷ []) (sym (append-nil trees))
      at_last false = refl
  walked_from env trees (binder s f ∷ steps) =
      ap (λ (h : ℤ → List Tree). flat_map h (kept_values universe env s f)) (fun_ext (λ v. walked_from (v ∷ env) trees steps))
      ∙ sym (kept_flat (λ e. conj (trees ++ below steps e)) (is_head universe p vs path) (λ v. instances universe (v ∷ env) steps) (kept_values universe env s f))
  walked_from env trees (body f ∷ steps) =
      let kept = filter (is_head universe p vs path) (instances universe env steps) in
      let count : binders steps + 0 ≡ binders steps = omega arith in
      let out = rw count at (body_out (λ e t. conj (trees ++ t ∷ below steps e)) [] env f steps) in
      walked_from env (trees ++ folded universe reading env true f ∷ []) steps
      ∙ (ap (λ (h : List ℤ → Tree). map h kept) (fun_ext (λ e. ap conj (append_assoc trees (folded universe reading env true f ∷ []) (below steps e))))
      ∙ sym out)

  -- from the first step on they are the trees of the path
  pub walked_path : walked universe reading p vs path [] [] path.steps ≡ path_trees universe reading p vs path
  walked_path = walked_from [] [] path.steps
