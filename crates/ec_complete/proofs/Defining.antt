-- The definition of a predicate is true of a tuple exactly where the sentences support it.
use Rattle.std.proofs.Common.{◌≡◌, ℕ, suc, ◌+◌, ◌==◌, Bool, true, false, ◌&&◌, ◌||◌, if◌then◌else◌, List, [], ◌∷◌, ◌++◌, length, map, filter, reverse, ℤ, All, refl, sym, ap, arith, slice_get, ◌∙◌, Some}
use Rattle.std.proofs.Math.Path.{fun_ext}
use Rattle.std.proofs.lemmas.Grind.{reverse_onto}
use Rattle.std.proofs.lemmas.List.{append-nil}
use Rattle.std.specs.List.{list_all, list_any, flat_map}
use Rattle.std.specs.Ordering.{int_eq}
use Rattle.ec_logic.specs.Tree.{Terms, no_terms, term, Formula, verum, falsum, atom, equal, less, negation, all_of, any_of, implies, iff, for_all, exists, Formulas, no_formulas, formula}
use Rattle.ec_logic.specs.TreeList.{formulas_of}
use Rattle.ec_logic.specs.Signature.{Signature}
use Rattle.ec_logic.specs.Universe.{Universe, argument_sorts, row_of, universe_of}
use Rattle.ec_logic.specs.Value.{value, values, same_values}
use Rattle.ec_logic.specs.Place.{keeps, kept_values}
use Rattle.ec_logic.specs.Truth.{Structure, truth}
use Rattle.ec_logic.specs.ClauseTree.{is_supported}
use Rattle.ec_logic.specs.Sorting.{AllFit, IsWellSorted, AreWellSorted}
use Rattle.ec_logic.specs.Paths.{Step, binder, body, Path, under, paths, paths_of, instances, binders, bodies, path_supports}
use Rattle.ec_logic.proofs.Tests.{same_number, test_cases}
use Rattle.ec_logic.proofs.SupportByPaths.{supports_by_paths}
use Rattle.ec_complete.specs.Completion.{count_of, equations, path_formula, definition, Defines}
use Rattle.ec_complete.proofs.Anys.{any_map, any_flat_map}
use Rattle.ec_complete.proofs.Instances.{Nests, Each, IsWithin, each_map, each_append, each_grows, paths_nest, path_instances}
use Rattle.ec_complete.proofs.Ordering.{ordered_same}
use Rattle.ec_complete.proofs.Closing.{supports-closed}

-- ---- the values of the arguments

-- a tuple, the last value first, before an environment
abbrev onto : List ℤ → List ℤ → List ℤ
onto [] front = front
onto (v ∷ vs) front = onto vs (v ∷ front)

onto_reverse : (vs front : List ℤ) → onto vs front ≡ reverse vs ++ front
onto_reverse [] front = refl
onto_reverse (v ∷ vs) front =
    let turned : reverse (v ∷ vs) ≡ reverse vs ++ (v ∷ []) = reverse_onto vs v [] in
    onto_reverse vs (v ∷ front) ∙ rw turned (joined (reverse vs) v front)
  where
    joined : (xs : List ℤ) (x : ℤ) (ys : List ℤ) → xs ++ (x ∷ ys) ≡ (xs ++ (x ∷ [])) ++ ys
    joined [] x ys = refl
    joined (y ∷ xs) x ys = ap (λ zs. y ∷ zs) (joined xs x ys)

onto_none : (vs : List ℤ) → onto vs [] ≡ reverse vs
onto_none vs = onto_reverse vs [] ∙ append-nil (reverse vs)

slice_get-past : (xs ys : List ℤ) (k : ℕ) → slice_get (xs ++ ys) (length xs + k) ≡ slice_get ys k
slice_get-past [] ys k = let e : 0 + k ≡ k = omega arith in rw e refl
slice_get-past (x ∷ xs) ys k = let e : length (x ∷ xs) + k ≡ suc (length xs + k) = omega arith in rw e (slice_get-past xs ys k)

slice_get-onto : (vs front : List ℤ) (i : ℕ) → slice_get (onto vs front) (length vs + i) ≡ slice_get front i
slice_get-onto [] front i = let e : 0 + i ≡ i = omega arith in rw e refl
slice_get-onto (v ∷ vs) front i = let e : length (v ∷ vs) + i ≡ length vs + suc i = omega arith in rw e (slice_get-onto vs (v ∷ front) (suc i))

equations_say : (universe : Universe) (m : Structure) (vs front x : List ℤ) (ts : Terms) → count_of ts ≡ length vs
    → list_all (truth universe m (x ++ onto vs front)) (equations (length x) ts) ≡ same_values (values universe (x ++ onto vs front) ts) vs
equations_say universe m [] front x no_terms h = refl
equations_say universe m (v ∷ vs) front x no_terms h = absurd (omega (arith, h))
equations_say universe m [] front x (term t ts) h = absurd (omega (arith, h))
equations_say universe m (v ∷ vs) front x (term t ts) h =
    let count : count_of ts ≡ length vs + 0 = omega (arith, h) in
    let same : slice_get (x ++ onto vs (v ∷ front)) (length x + count_of ts) ≡ Some v = rw count (slice_get-past x (onto vs (v ∷ front)) (length vs + 0) ∙ slice_get-onto vs (v ∷ front) 0) in
    rw same (ap (λ b. int_eq (value universe (x ++ onto vs (v ∷ front)) t) v && b) (equations_say universe m vs (v ∷ front) x ts (omega (arith, h))))

-- ---- the formula of a path

-- two tests that are equal at values put before an environment, as many as a path has binders
instances_same : (universe : Universe) (s t : List ℤ → Bool) (new env : List ℤ) (steps : List Step) → ((x : List ℤ) → length x ≡ binders steps + length new → s (x ++ env) ≡ t (x ++ env))
    → list_any s (instances universe (new ++ env) steps) ≡ list_any t (instances universe (new ++ env) steps)
instances_same universe s t new env [] h = ap (λ b. b || false) (h new (omega arith))
instances_same universe s t new env (binder k g ∷ steps) h =
    any_flat_map s (λ v. instances universe (v ∷ (new ++ env)) steps) (kept_values universe (new ++ env) k g)
    ∙ (ap (λ q. list_any q (kept_values universe (new ++ env) k g)) (fun_ext (λ v. instances_same universe s t (v ∷ new) env steps (λ x e. h x (omega (arith, e)))))
    ∙ sym (any_flat_map t (λ v. instances universe (v ∷ (new ++ env)) steps) (kept_values universe (new ++ env) k g)))
instances_same universe s t new env (body g ∷ steps) h = instances_same universe s t new env steps h

-- the formula of a path is true of the arguments exactly where the path supports them
path_formula_says : (universe : Universe) (m : Structure) (vs : List ℤ) (q : Path) → Nests universe q.steps q.args → count_of q.args ≡ length vs
    → truth universe m (onto vs []) (path_formula universe q) ≡ list_any (λ e. list_all (truth universe m e) (bodies q.steps) && same_values (values universe e q.args) vs) (instances universe (onto vs []) q.steps)
path_formula_says universe m vs q n h =
    sym (ordered_same universe m (onto vs []) q)
    ∙ (path_instances universe m (onto vs []) (binders q.steps) q.steps q.args n
    ∙ instances_same universe (λ e. list_all (truth universe m e) (bodies q.steps) && list_all (truth universe m e) (equations (binders q.steps) q.args)) (λ e. list_all (truth universe m e) (bodies q.steps) && same_values (values universe e q.args) vs) [] (onto vs []) q.steps
    (λ x e. let count : binders q.steps ≡ length x = omega (arith, e) in
    ap (λ b. list_all (truth universe m (x ++ onto vs [])) (bodies q.steps) && b) (rw count (equations_say universe m vs [] x q.args h))))

any_true-of : (universe : Universe) (m : Structure) (env : List ℤ) (fs : List Formula) → truth universe m env (any_of (formulas_of fs)) ≡ list_any (truth universe m env) fs
any_true-of universe m env [] = refl
any_true-of universe m env (f ∷ fs) = ap (λ b. truth universe m env f || b) (any_true-of universe m env fs)

any_filtered : {A : Type 0} (t c : A → Bool) (xs : List A) → list_any t (filter c xs) ≡ list_any (λ x. c x && t x) xs
any_filtered t c [] = refl
any_filtered t c (x ∷ xs) = cases (any_filtered t c xs) (c x)
  where
    cases : list_any t (filter c xs) ≡ list_any (λ y. c y && t y) xs → (b : Bool) → list_any t (if b then x ∷ filter c xs else filter c xs) ≡ ((b && t x) || list_any (λ y. c y && t y) xs)
    cases ih true = rw ih refl
    cases ih false = ih

-- ---- facts of each path

each_same : (P : Path → Type 0) (s t : Path → Bool) → ((q : Path) → P q → s q ≡ t q) → (qs : List Path) → Each P qs → list_any s qs ≡ list_any t qs
each_same P s t l [] e = refl
each_same P s t l (q ∷ qs) e = rw (l q e.0, each_same P s t l qs e.1) refl

all_paths_nest : (universe : Universe) (fs : List Formula) → Each (λ q. Nests universe q.steps q.args) (flat_map paths fs)
all_paths_nest universe [] = tt
all_paths_nest universe (f ∷ fs) = each_append (λ q. Nests universe q.steps q.args) (paths f) (flat_map paths fs) (each_grows (IsWithin universe (λ env d. keeps universe env d f)) (λ q. Nests universe q.steps q.args) (λ q w. w.1) (paths f) (paths_nest universe f)) (all_paths_nest universe fs)

both_each : (P Q : Path → Type 0) (qs : List Path) → Each P qs → Each Q qs → Each (λ q. P q × Q q) qs
both_each P Q [] d e = tt
both_each P Q (q ∷ qs) d e = ((d.0, e.0), both_each P Q qs d.1 e.1)

pub first_of : {X : Type 0} (P : X → Type 0) (x : X) (xs : List X) → All P (x ∷ xs) → P x
first_of P x xs h = h 0 x (omega arith)

pub rest_of : {X : Type 0} (P : X → Type 0) (x : X) (xs : List X) → All P (x ∷ xs) → All P xs
rest_of P x xs h = λ k d l. h (suc k) d (omega (arith, l))

-- a head has as many arguments as its predicate takes
abbrev HasArity : List (List ℕ) → Path → Type 0
HasArity rows q = count_of q.args ≡ length (row_of rows q.predicate)

module _ (signature : Signature) where
  fitting_count : (scope ss : List ℕ) (ts : Terms) → AllFit signature scope ss ts → count_of ts ≡ length ss
  fitting_count scope [] no_terms h = refl
  fitting_count scope (s ∷ ss) no_terms h = absurd h
  fitting_count scope [] (term t ts) h = absurd h
  fitting_count scope (s ∷ ss) (term t ts) h = ap suc (fitting_count scope ss ts h.1)

  abbrev pub arity : Path → Type 0
  arity = HasArity (argument_sorts signature.predicates)

  mutual
    pub paths_arity : (scope : List ℕ) (f : Formula) → IsWellSorted signature scope f → Each arity (paths f)
    paths_arity scope verum h = tt
    paths_arity scope falsum h = tt
    paths_arity scope (atom p ts) h = (fitting_count scope (row_of (argument_sorts signature.predicates) p) ts h.1, tt)
    paths_arity scope (equal a b) h = tt
    paths_arity scope (less a b) h = tt
    paths_arity scope (negation f) h = tt
    paths_arity scope (all_of fs) h = all_arity scope fs h
    paths_arity scope (any_of fs) h = tt
    paths_arity scope (implies f g) h = each_map arity arity (under (body f)) (λ q a. a) (paths g) (paths_arity scope g h.1)
    paths_arity scope (iff f g) h = tt
    paths_arity scope (for_all s f) h = each_map arity arity (under (binder s f)) (λ q a. a) (paths f) (paths_arity (s ∷ scope) f h.1)
    paths_arity scope (exists s f) h = tt

    all_arity : (scope : List ℕ) (fs : Formulas) → AreWellSorted signature scope fs → Each arity (paths_of fs)
    all_arity scope no_formulas h = tt
    all_arity scope (formula f fs) h = each_append arity (paths f) (paths_of fs) (paths_arity scope f h.0) (all_arity scope fs h.1)

  all_paths_arity : (fs : List Formula) → All (IsWellSorted signature []) fs → Each arity (flat_map paths fs)
  all_paths_arity [] h = tt
  all_paths_arity (f ∷ fs) h = each_append arity (paths f) (flat_map paths fs) (paths_arity [] f (first_of (IsWellSorted signature []) f fs h)) (all_paths_arity fs (rest_of (IsWellSorted signature []) f fs h))

  any_sentence : (universe : Universe) (m : Structure) (p : ℕ) (vs : List ℤ) (new : List ℤ) (fs : List Formula) → All (IsWellSorted signature []) fs → list_any (λ f. list_any (path_supports universe m p vs (new ++ [])) (paths f)) fs ≡ is_supported universe m fs p vs
  any_sentence universe m p vs new [] c = refl
  any_sentence universe m p vs new (f ∷ fs) c = rw (supports_by_paths universe m p vs (new ++ []) f, supports-closed signature universe m new p vs f (first_of (IsWellSorted signature []) f fs c), any_sentence universe m p vs new fs (rest_of (IsWellSorted signature []) f fs c)) refl

-- ---- the definition

never : (t : List ℤ → Bool) (es : List (List ℤ)) → false ≡ list_any (λ e. t e && false) es
never t [] = refl
never t (e ∷ es) = cases (t e) (never t es)
  where
    cases : (b : Bool) → false ≡ list_any (λ x. t x && false) es → false ≡ ((b && false) || list_any (λ x. t x && false) es)
    cases true ih = ih
    cases false ih = ih

path_supports_says : (universe : Universe) (m : Structure) (p : ℕ) (vs : List ℤ) (q : Path) → Nests universe q.steps q.args → ((q.predicate == p) ≡ true → count_of q.args ≡ length vs) → ((q.predicate == p) && truth universe m (onto vs []) (path_formula universe q)) ≡ path_supports universe m p vs (onto vs []) q
path_supports_says universe m p vs q n a = test_cases (((q.predicate == p) && truth universe m (onto vs []) (path_formula universe q)) ≡ path_supports universe m p vs (onto vs []) q) (q.predicate == p)
    (λ e. rw e (path_formula_says universe m vs q n (a e)))
    (λ e. rw e (never (λ x. list_all (truth universe m x) (bodies q.steps)) (instances universe (onto vs []) q.steps)))

-- the definition of a predicate is true of a tuple of its length exactly where the sentences support it
pub definition_says : (signature : Signature) (sentences : List Formula) → All (IsWellSorted signature []) sentences → (p : ℕ) → Defines (universe_of signature) sentences p (definition (universe_of signature) sentences p)
definition_says signature sentences sorted p m vs long =
    let universe = universe_of signature in
    let taken = filter (λ q. q.predicate == p) (flat_map paths sentences) in
    let each = both_each (λ q. Nests universe q.steps q.args) (arity signature) (flat_map paths sentences) (all_paths_nest universe sentences) (all_paths_arity signature sentences sorted) in
    let count : (q : Path) → arity signature q → (q.predicate == p) ≡ true → count_of q.args ≡ length vs
    = λ q a e. let same = same_number q.predicate p e in rw same at a ∙ sym long
    in
    let said : truth universe m (onto vs []) (definition universe sentences p) ≡ is_supported universe m sentences p vs
    = any_true-of universe m (onto vs []) (map (path_formula universe) taken)
    ∙ (any_map (truth universe m (onto vs [])) (path_formula universe) taken
    ∙ (any_filtered (λ q. truth universe m (onto vs []) (path_formula universe q)) (λ q. q.predicate == p) (flat_map paths sentences)
    ∙ (each_same (λ q. Nests universe q.steps q.args × arity signature q) (λ q. (q.predicate == p) && truth universe m (onto vs []) (path_formula universe q)) (path_supports universe m p vs (onto vs [])) (λ q h. path_supports_says universe m p vs q h.0 (count q h.1)) (flat_map paths sentences) each
    ∙ (any_flat_map (path_supports universe m p vs (onto vs [])) paths sentences
    ∙ (rw (append-nil (onto vs [])) at (any_sentence signature universe m p vs (onto vs []) sentences sorted))))))
    in
    rw (onto_none vs) at said
