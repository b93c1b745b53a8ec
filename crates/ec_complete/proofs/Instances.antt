-- The formula of a path is true exactly where the path supports the arguments.
use Rattle.std.proofs.Common.{◌≡◌, ℕ, suc, ◌+◌, ◌<◌, Bool, true, false, ◌&&◌, if◌then◌else◌, List, [], ◌∷◌, ◌++◌, length, map, filter, ℤ, pos, refl, sym, ap, arith, ◌∙◌, append_assoc}
use Rattle.std.proofs.Math.Path.{fun_ext}
use Rattle.std.proofs.lemmas.List.Folds.{list_all-append, list_all-map}
use Rattle.std.specs.List.{list_all, list_any}
use Rattle.ec_logic.specs.Tree.{Terms, no_terms, term, Formula, verum, falsum, atom, equal, less, negation, all_of, any_of, implies, iff, for_all, exists, Formulas, no_formulas, formula}
use Rattle.ec_logic.specs.Universe.{Universe, domain, row_of}
use Rattle.ec_logic.specs.Truth.{Structure, truth}
use Rattle.ec_logic.specs.Place.{place_in_range, term_keeps, terms_keep, keeps, all_keep, kept_values}
use Rattle.ec_logic.specs.Shift.{shifted}
use Rattle.ec_logic.specs.Paths.{Step, binder, body, Path, under, paths, paths_of, instances, binders, bodies}
use Rattle.ec_logic.specs.TreeList.{formulas_of}
use Rattle.ec_complete.specs.Completion.{ranges, equations, within}
use Rattle.ec_logic.proofs.Tests.{and_parts}
use Rattle.ec_logic.proofs.Shifting.{truth-shifted}
use Rattle.ec_complete.proofs.Raising.{keeps-raised, keeps-clear}
use Rattle.ec_complete.proofs.Ranging.{ranges_say, ranges_keep}
use Rattle.ec_complete.proofs.Anys.{any_flat_map, any_and, or_false, and_assoc, and_true, body_out}

-- the ranges of the binders' places and the bodies, in the order of the steps, each read under all of the path's binders
abbrev pub parts : Universe → List Step → List Formula
parts universe [] = []
parts universe (binder s f ∷ steps) = map (shifted 0 (binders steps)) (ranges universe 0 f) ++ parts universe steps
parts universe (body f ∷ steps) = shifted 0 (binders steps) f ∷ parts universe steps

abbrev pub conj : List Formula → Formula
conj fs = all_of (formulas_of fs)

pub truth-conj : (universe : Universe) (m : Structure) (env : List ℤ) (fs : List Formula) → truth universe m env (conj fs) ≡ list_all (truth universe m env) fs
truth-conj universe m env [] = refl
truth-conj universe m env (f ∷ fs) = ap (λ b. truth universe m env f && b) (truth-conj universe m env fs)

pub keeps-conj : (universe : Universe) (env : List ℤ) (d : ℕ) (fs : List Formula) → keeps universe env d (conj fs) ≡ list_all (keeps universe env d) fs
keeps-conj universe env d [] = refl
keeps-conj universe env d (f ∷ fs) = ap (λ b. keeps universe env d f && b) (keeps-conj universe env d fs)

all_pass : {A : Type 0} (t : A → Bool) → ((x : A) → t x ≡ true) → (xs : List A) → list_all t xs ≡ true
all_pass t h [] = refl
all_pass t h (x ∷ xs) = rw (h x) (all_pass t h xs)

module _ (universe : Universe) (bs ps : List Formula) where
  -- these formulas, raised past the binders, beside others within them
  abbrev with_raised : ℕ → List Step → Formula
  with_raised by steps = within steps (conj (map (shifted 0 (binders steps + by)) bs ++ ps))

  keeps-new : (env : List ℤ) (d by : ℕ) (steps : List Step) → d < by → keeps universe env d (with_raised by steps) ≡ keeps universe env d (within steps (conj ps))
  keeps-new env d by [] h =
      let clear : list_all (λ b. keeps universe env d (shifted 0 (0 + by) b)) bs ≡ true = all_pass (λ b. keeps universe env d (shifted 0 (0 + by) b)) (λ b. keeps-clear universe (0 + by) env 0 d b (omega arith) (omega arith)) bs in
      rw (keeps-conj universe env d (map (shifted 0 (0 + by)) bs ++ ps), keeps-conj universe env d ps, list_all-append (keeps universe env d) (map (shifted 0 (0 + by)) bs) ps, list_all-map (keeps universe env d) (shifted 0 (0 + by)) bs, clear) refl
  keeps-new env d by (binder s g ∷ steps) h = let count : binders steps + 1 + by ≡ binders steps + suc by = omega arith in rw count (keeps-new (pos 0 ∷ env) (suc d) (suc by) steps (omega arith))
  keeps-new env d by (body g ∷ steps) h = keeps-new env d by steps h

  keeps-with : (new env : List ℤ) (d e : ℕ) (steps : List Step) → e ≡ d + length new → keeps universe (new ++ env) e (with_raised (length new) steps) ≡ (list_all (keeps universe env d) bs && keeps universe (new ++ env) e (within steps (conj ps)))
  keeps-with new env d e [] h =
      let none : 0 + length new ≡ length new = omega arith in
      let same : list_all (λ b. keeps universe (new ++ env) e (shifted 0 (0 + length new) b)) bs ≡ list_all (keeps universe env d) bs = rw none (ap (λ t. list_all t bs) (fun_ext (λ b. keeps-raised universe new env [] d e b (omega arith) h))) in
      rw (keeps-conj universe (new ++ env) e (map (shifted 0 (0 + length new)) bs ++ ps), keeps-conj universe (new ++ env) e ps, list_all-append (keeps universe (new ++ env) e) (map (shifted 0 (0 + length new)) bs) ps, list_all-map (keeps universe (new ++ env) e) (shifted 0 (0 + length new)) bs, same) refl
  keeps-with new env d e (binder s g ∷ steps) h = let count : binders steps + 1 + length new ≡ binders steps + suc (length new) = omega arith in rw count (keeps-with (pos 0 ∷ new) env d (suc e) steps (omega arith))
  keeps-with new env d e (body g ∷ steps) h = keeps-with new env d e steps h

  truth-with : (m : Structure) (new env : List ℤ) (steps : List Step) → truth universe m (new ++ env) (with_raised (length new) steps) ≡ (list_all (truth universe m env) bs && truth universe m (new ++ env) (within steps (conj ps)))
  truth-with m new env [] =
      let none : 0 + length new ≡ length new = omega arith in
      let same : list_all (λ b. truth universe m (new ++ env) (shifted 0 (0 + length new) b)) bs ≡ list_all (truth universe m env) bs = rw none (ap (λ t. list_all t bs) (fun_ext (λ b. truth-shifted universe m new env [] b))) in
      rw (truth-conj universe m (new ++ env) (map (shifted 0 (0 + length new)) bs ++ ps), truth-conj universe m (new ++ env) ps, list_all-append (truth universe m (new ++ env)) (map (shifted 0 (0 + length new)) bs) ps, list_all-map (truth universe m (new ++ env)) (shifted 0 (0 + length new)) bs, same) refl
  truth-with m new env (binder s g ∷ steps) =
      let count : binders steps + 1 + length new ≡ binders steps + suc (length new) = omega arith in
      rw count (
      ap (λ k. list_any (λ v. truth universe m (v ∷ (new ++ env)) (with_raised (suc (length new)) steps)) (filter k (domain universe s))) (fun_ext (λ v. keeps-new (v ∷ (new ++ env)) 0 (suc (length new)) steps (omega arith)))
      ∙ (ap (λ t. list_any t (kept_values universe (new ++ env) s (within steps (conj ps)))) (fun_ext (λ v. truth-with m (v ∷ new) env steps))
      ∙ any_and (list_all (truth universe m env) bs) (λ v. truth universe m (v ∷ (new ++ env)) (within steps (conj ps))) (kept_values universe (new ++ env) s (within steps (conj ps))))
      )
  truth-with m new env (body g ∷ steps) = truth-with m new env steps

-- ---- places within a path's formula are places of the sentence

abbrev pub each_keeps : Universe → List ℤ → ℕ → Terms → Bool
each_keeps universe env d no_terms = true
each_keeps universe env d (term t ts) = term_keeps universe env d t && each_keeps universe env d ts

abbrev pub steps_keep : Universe → List ℤ → ℕ → List Step → Terms → Bool
steps_keep universe env d [] ts = each_keeps universe env d ts
steps_keep universe env d (binder s f ∷ steps) ts = keeps universe (pos 0 ∷ env) (suc d) f && steps_keep universe (pos 0 ∷ env) (suc d) steps ts
steps_keep universe env d (body f ∷ steps) ts = keeps universe env d f && steps_keep universe env d steps ts

equations_keep : (universe : Universe) (env : List ℤ) (d k : ℕ) (ts : Terms) → each_keeps universe env d ts ≡ true → list_all (keeps universe env d) (equations k ts) ≡ true
equations_keep universe env d k no_terms h = refl
equations_keep universe env d k (term t ts) h = let both = and_parts (term_keeps universe env d t) (each_keeps universe env d ts) h in rw (both.0) (equations_keep universe env d k ts both.1)

path_keeps : (universe : Universe) (env : List ℤ) (d k : ℕ) (steps : List Step) (ts : Terms) → steps_keep universe env d steps ts ≡ true → keeps universe env d (within steps (conj (parts universe steps ++ equations k ts))) ≡ true
path_keeps universe env d k [] ts h = keeps-conj universe env d (equations k ts) ∙ equations_keep universe env d k ts h
path_keeps universe env d k (binder s g ∷ steps) ts h =
    let both = and_parts (keeps universe (pos 0 ∷ env) (suc d) g) (steps_keep universe (pos 0 ∷ env) (suc d) steps ts) h in
    let count : binders steps + 0 ≡ binders steps = omega arith in
    let with = rw count at (keeps-with universe (ranges universe 0 g) (parts universe steps ++ equations k ts) [] (pos 0 ∷ env) (suc d) (suc d) steps (omega arith)) in
    rw (append_assoc (map (shifted 0 (binders steps)) (ranges universe 0 g)) (parts universe steps) (equations k ts))
    (with ∙ (rw (ranges_keep universe (pos 0 ∷ env) (suc d) [] (suc d) g (omega arith) both.0) (path_keeps universe (pos 0 ∷ env) (suc d) k steps ts both.1)))
path_keeps universe env d k (body f ∷ steps) ts h =
    let both = and_parts (keeps universe env d f) (steps_keep universe env d steps ts) h in
    let count : binders steps + 0 ≡ binders steps = omega arith in
    let with = rw count at (keeps-with universe (f ∷ []) (parts universe steps ++ equations k ts) [] env d d steps (omega arith)) in
    with ∙ (rw both.0 (path_keeps universe env d k steps ts both.1))

-- ---- the formula of a path, over its instances

-- each binder's scope has the places of what stands below it on the path
abbrev pub Nests : Universe → List Step → Terms → Type 0
Nests universe [] ts = Unit {0}
Nests universe (binder s f ∷ steps) ts = ((env : List ℤ) (d : ℕ) → keeps universe env d f ≡ true → steps_keep universe env d steps ts ≡ true) × Nests universe steps ts
Nests universe (body f ∷ steps) ts = Nests universe steps ts

-- a test that asks k over more kept values is the rest of it over those that k keeps
any_kept : {A : Type 0} (test g k l : A → Bool) → ((x : A) → test x ≡ (k x && g x)) → ((x : A) → k x ≡ true → l x ≡ true) → (xs : List A) → list_any test (filter l xs) ≡ list_any g (filter k xs)
any_kept test g k l e h [] = refl
any_kept test g k l e h (x ∷ xs) = cases (any_kept test g k l e h xs) (k x) (l x) refl refl
  where
    cases : list_any test (filter l xs) ≡ list_any g (filter k xs) → (b c : Bool) → k x ≡ b → l x ≡ c → list_any test (if c then x ∷ filter l xs else filter l xs) ≡ list_any g (if b then x ∷ filter k xs else filter k xs)
    cases ih true true p q = let t : test x ≡ g x = rw p at (e x) in rw (t, ih) refl
    cases ih true false p q = let y = h x p in cc
    cases ih false true p q = let t : test x ≡ false = rw p at (e x) in rw t ih
    cases ih false false p q = ih

pub path_instances : (universe : Universe) (m : Structure) (env : List ℤ) (k : ℕ) (steps : List Step) (ts : Terms) → Nests universe steps ts
    → truth universe m env (within steps (conj (parts universe steps ++ equations k ts))) ≡ list_any (λ e. list_all (truth universe m e) (bodies steps) && list_all (truth universe m e) (equations k ts)) (instances universe env steps)
path_instances universe m env k [] ts n = truth-conj universe m env (equations k ts) ∙ sym (or_false (list_all (truth universe m env) (equations k ts)))
path_instances universe m env k (binder s g ∷ steps) ts n =
    let inner = within steps (conj (parts universe steps ++ equations k ts)) in
    let whole = within steps (conj (map (shifted 0 (binders steps)) (ranges universe 0 g) ++ (parts universe steps ++ equations k ts))) in
    let count : binders steps + 0 ≡ binders steps = omega arith in
    let splits : (v : ℤ) → truth universe m (v ∷ env) whole ≡ (keeps universe (v ∷ env) 0 g && truth universe m (v ∷ env) inner)
    = λ v. (rw count at (truth-with universe (ranges universe 0 g) (parts universe steps ++ equations k ts) m [] (v ∷ env) steps)) ∙ ap (λ b. b && truth universe m (v ∷ env) inner) (ranges_say universe m (v ∷ env) [] g)
    in
    let stays : (v : ℤ) → keeps universe (v ∷ env) 0 g ≡ true → keeps universe (v ∷ env) 0 whole ≡ true
    = λ v h. (rw count at (keeps-with universe (ranges universe 0 g) (parts universe steps ++ equations k ts) [] (v ∷ env) 0 0 steps (omega arith)))
    ∙ (rw (ranges_keep universe (v ∷ env) 0 [] 0 g (omega arith) h) (path_keeps universe (v ∷ env) 0 k steps ts (n.0 (v ∷ env) 0 h)))
    in
    rw (append_assoc (map (shifted 0 (binders steps)) (ranges universe 0 g)) (parts universe steps) (equations k ts)) (
    any_kept (λ v. truth universe m (v ∷ env) whole) (λ v. truth universe m (v ∷ env) inner) (λ v. keeps universe (v ∷ env) 0 g) (λ v. keeps universe (v ∷ env) 0 whole) splits stays (domain universe s)
    ∙ (ap (λ t. list_any t (kept_values universe env s g)) (fun_ext (λ v. path_instances universe m (v ∷ env) k steps ts n.1))
    ∙ sym (any_flat_map (λ e. list_all (truth universe m e) (bodies steps) && list_all (truth universe m e) (equations k ts)) (λ v. instances universe (v ∷ env) steps) (kept_values universe env s g)))
    )
path_instances universe m env k (body f ∷ steps) ts n =
    let count : binders steps + 0 ≡ binders steps = omega arith in
    let split = rw count at (truth-with universe (f ∷ []) (parts universe steps ++ equations k ts) m [] env steps) in
    let test : List ℤ → Bool = λ e. list_all (truth universe m e) (bodies steps) && list_all (truth universe m e) (equations k ts) in
    let out = rw count at (body_out universe m [] env steps f test) in
    split
    ∙ (ap (λ b. b && truth universe m env (within steps (conj (parts universe steps ++ equations k ts)))) (and_true (truth universe m env f))
    ∙ (ap (λ b. truth universe m env f && b) (path_instances universe m env k steps ts n)
    ∙ (sym out
    ∙ ap (λ t. list_any t (instances universe env steps)) (fun_ext (λ e. sym (and_assoc (truth universe m e (shifted 0 (binders steps) f)) (list_all (truth universe m e) (bodies steps)) (list_all (truth universe m e) (equations k ts))))))))

-- ---- paths nest

abbrev pub Each : (Path → Type 0) → List Path → Type 0
Each P [] = Unit {0}
Each P (q ∷ qs) = P q × Each P qs

pub each_map : (P Q : Path → Type 0) (h : Path → Path) → ((q : Path) → P q → Q (h q)) → (qs : List Path) → Each P qs → Each Q (map h qs)
each_map P Q h l [] e = tt
each_map P Q h l (q ∷ qs) e = (l q e.0, each_map P Q h l qs e.1)

pub each_append : (P : Path → Type 0) (qs rs : List Path) → Each P qs → Each P rs → Each P (qs ++ rs)
each_append P [] rs d e = e
each_append P (q ∷ qs) rs d e = (d.0, each_append P qs rs d.1 e)

pub each_grows : (P Q : Path → Type 0) → ((q : Path) → P q → Q q) → (qs : List Path) → Each P qs → Each Q qs
each_grows P Q l [] e = tt
each_grows P Q l (q ∷ qs) e = (l q e.0, each_grows P Q l qs e.1)

abbrev pub IsWithin : Universe → (List ℤ → ℕ → Bool) → Path → Type 0
IsWithin universe scope q = ((env : List ℤ) (d : ℕ) → scope env d ≡ true → steps_keep universe env d q.steps q.args ≡ true) × Nests universe q.steps q.args

terms_each : (universe : Universe) (env : List ℤ) (d : ℕ) (ss : List ℕ) (ts : Terms) → terms_keep universe env d ss ts ≡ true → each_keeps universe env d ts ≡ true
terms_each universe env d ss no_terms h = refl
terms_each universe env d [] (term t ts) h = let both = and_parts (term_keeps universe env d t) (terms_keep universe env d [] ts) h in rw both.0 (terms_each universe env d [] ts both.1)
terms_each universe env d (s ∷ ss) (term t ts) h =
    let rest = (and_parts (place_in_range universe env d s t) (term_keeps universe env d t && terms_keep universe env d ss ts) h).1 in
    let both = and_parts (term_keeps universe env d t) (terms_keep universe env d ss ts) rest in
    rw both.0 (terms_each universe env d ss ts both.1)

mutual
  pub paths_nest : (universe : Universe) (f : Formula) → Each (IsWithin universe (λ env d. keeps universe env d f)) (paths f)
  paths_nest universe verum = tt
  paths_nest universe falsum = tt
  paths_nest universe (atom p ts) = ((λ env d h. terms_each universe env d (row_of universe.predicates p) ts h, tt), tt)
  paths_nest universe (equal a b) = tt
  paths_nest universe (less a b) = tt
  paths_nest universe (negation f) = tt
  paths_nest universe (all_of fs) = all_nest universe fs
  paths_nest universe (any_of fs) = tt
  paths_nest universe (implies f g) = each_map (IsWithin universe (λ env d. keeps universe env d g)) (IsWithin universe (λ env d. keeps universe env d (implies f g))) (under (body f))
      (λ q w. (λ env d h. let both = and_parts (keeps universe env d f) (keeps universe env d g) h in rw both.0 (w.0 env d both.1), w.1)) (paths g) (paths_nest universe g)
  paths_nest universe (iff f g) = tt
  paths_nest universe (for_all s f) = each_map (IsWithin universe (λ env d. keeps universe env d f)) (IsWithin universe (λ env d. keeps universe env d (for_all s f))) (under (binder s f))
      (λ q w. (λ env d h. rw h (w.0 (pos 0 ∷ env) (suc d) h), (w.0, w.1))) (paths f) (paths_nest universe f)
  paths_nest universe (exists s f) = tt

  all_nest : (universe : Universe) (fs : Formulas) → Each (IsWithin universe (λ env d. all_keep universe env d fs)) (paths_of fs)
  all_nest universe no_formulas = tt
  all_nest universe (formula f fs) = each_append (IsWithin universe (λ env d. all_keep universe env d (formula f fs))) (paths f) (paths_of fs)
      (each_grows (IsWithin universe (λ env d. keeps universe env d f)) (IsWithin universe (λ env d. all_keep universe env d (formula f fs))) (λ q w. (λ env d h. w.0 env d (and_parts (keeps universe env d f) (all_keep universe env d fs) h).0, w.1)) (paths f) (paths_nest universe f))
      (each_grows (IsWithin universe (λ env d. all_keep universe env d fs)) (IsWithin universe (λ env d. all_keep universe env d (formula f fs))) (λ q w. (λ env d h. w.0 env d (and_parts (keeps universe env d f) (all_keep universe env d fs) h).1, w.1)) (paths_of fs) (all_nest universe fs))
