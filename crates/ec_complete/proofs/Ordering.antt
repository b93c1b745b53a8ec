-- The order of the parts of a path's formula is of no matter.
use Rattle.std.proofs.Common.{◌≡◌, ℕ, suc, Bool, true, false, ◌&&◌, List, [], ◌∷◌, ◌++◌, map, filter, ℤ, pos, refl, sym, ap, ◌∙◌}
use Rattle.std.proofs.Math.Path.{fun_ext}
use Rattle.std.proofs.lemmas.List.Folds.{list_all-append}
use Rattle.std.specs.List.{list_all, list_any}
use Rattle.ec_logic.specs.Tree.{Formula}
use Rattle.ec_logic.specs.Universe.{Universe, domain}
use Rattle.ec_logic.specs.Truth.{Structure, truth}
use Rattle.ec_logic.specs.Place.{keeps, kept_values}
use Rattle.ec_logic.specs.Shift.{shifted}
use Rattle.ec_logic.specs.Paths.{Step, binder, body, Path, binders, bodies}
use Rattle.ec_complete.specs.Completion.{ranges, equations, step_ranges, within, path_formula}
use Rattle.ec_complete.proofs.Anys.{and_assoc}
use Rattle.ec_complete.proofs.Instances.{parts, conj, truth-conj, keeps-conj}

and_swap : (a b : Bool) → (a && b) ≡ (b && a)
and_swap true true = refl
and_swap true false = refl
and_swap false true = refl
and_swap false false = refl

and_past : (a b c : Bool) → (a && (b && c)) ≡ (b && (a && c))
and_past true b c = refl
and_past false true c = refl
and_past false false c = refl

parts_all : (t : Formula → Bool) (universe : Universe) (steps : List Step) → list_all t (parts universe steps) ≡ (list_all t (step_ranges universe steps) && list_all t (bodies steps))
parts_all t universe [] = refl
parts_all t universe (binder s f ∷ steps) =
    rw (list_all-append t (map (shifted 0 (binders steps)) (ranges universe 0 f)) (parts universe steps), list_all-append t (map (shifted 0 (binders steps)) (ranges universe 0 f)) (step_ranges universe steps), parts_all t universe steps)
    (sym (and_assoc (list_all t (map (shifted 0 (binders steps)) (ranges universe 0 f))) (list_all t (step_ranges universe steps)) (list_all t (bodies steps))))
parts_all t universe (body f ∷ steps) = rw (parts_all t universe steps) (and_past (t (shifted 0 (binders steps) f)) (list_all t (step_ranges universe steps)) (list_all t (bodies steps)))

order_all : (t : Formula → Bool) (universe : Universe) (steps : List Step) (es : List Formula) → list_all t (parts universe steps ++ es) ≡ list_all t (es ++ (step_ranges universe steps ++ bodies steps))
order_all t universe steps es = rw (list_all-append t (parts universe steps) es, list_all-append t es (step_ranges universe steps ++ bodies steps), list_all-append t (step_ranges universe steps) (bodies steps), parts_all t universe steps)
    (and_swap (list_all t (step_ranges universe steps) && list_all t (bodies steps)) (list_all t es))

module _ (universe : Universe) (m : Structure) (xs ys : List Formula) (same : (t : Formula → Bool) → list_all t xs ≡ list_all t ys) where
  keeps-within : (env : List ℤ) (d : ℕ) (steps : List Step) → keeps universe env d (within steps (conj xs)) ≡ keeps universe env d (within steps (conj ys))
  keeps-within env d [] = keeps-conj universe env d xs ∙ (same (keeps universe env d) ∙ sym (keeps-conj universe env d ys))
  keeps-within env d (binder s g ∷ steps) = keeps-within (pos 0 ∷ env) (suc d) steps
  keeps-within env d (body g ∷ steps) = keeps-within env d steps

  truth-within : (env : List ℤ) (steps : List Step) → truth universe m env (within steps (conj xs)) ≡ truth universe m env (within steps (conj ys))
  truth-within env [] = truth-conj universe m env xs ∙ (same (truth universe m env) ∙ sym (truth-conj universe m env ys))
  truth-within env (binder s g ∷ steps) =
      ap (λ k. list_any (λ v. truth universe m (v ∷ env) (within steps (conj xs))) (filter k (domain universe s))) (fun_ext (λ v. keeps-within (v ∷ env) 0 steps))
      ∙ ap (λ t. list_any t (kept_values universe env s (within steps (conj ys)))) (fun_ext (λ v. truth-within (v ∷ env) steps))
  truth-within env (body g ∷ steps) = truth-within env steps

pub ordered_same : (universe : Universe) (m : Structure) (env : List ℤ) (q : Path) → truth universe m env (within q.steps (conj (parts universe q.steps ++ equations (binders q.steps) q.args))) ≡ truth universe m env (path_formula universe q)
ordered_same universe m env q = truth-within universe m (parts universe q.steps ++ equations (binders q.steps) q.args) (equations (binders q.steps) q.args ++ (step_ranges universe q.steps ++ bodies q.steps)) (λ t. order_all t universe q.steps (equations (binders q.steps) q.args)) env q.steps
