-- The value, the places and the truth of a tree with a term in place of a variable.
use Rattle.std.proofs.Common.{if◌then◌else◌, false, true, Bool, ◌∙◌, sym, ◌==◌, nat_lt, ◌-◌, ◌≡◌, ℕ, zero, suc, ◌<◌, not, List, [], ◌∷◌, ◌++◌, length, ℤ, pos, Option, Some, None, option_map, unwrap_or, refl, ap, arith, filter, slice_get}
use Rattle.std.proofs.Math.Path.{fun_ext}
use Rattle.std.proofs.lemmas.Bool.Decides.{nat_tests}
use Rattle.std.specs.List.{list_all, list_any}
use Rattle.ec_logic.specs.Tree.{Term, variable, int, constant, event, fluent, sum, difference, product, Terms, no_terms, term, Formula, verum, falsum, atom, equal, less, negation, all_of, any_of, implies, iff, for_all, exists, Formulas, no_formulas, formula}
use Rattle.ec_logic.proofs.Shifting.{value-shifted, innermost-shifted}
use Rattle.ec_logic.specs.Universe.{Universe, domain, row_of}
use Rattle.ec_logic.specs.Value.{value, values}
use Rattle.ec_logic.specs.Place.{nearer, innermost, innermost_of, is_at, place_in_range, term_keeps, terms_keep, keeps, all_keep, kept_values}
use Rattle.ec_logic.specs.Truth.{Structure, truth, all_true, any_true}
use Rattle.ec_logic.specs.Shift.{shifted_variable, shifted_term}
use Rattle.ec_logic.specs.Substitute.{substituted_variable, substituted_term, substituted_terms, substituted, substituted_each, PutsValue}

-- the innermost variable, if it is at most d
abbrev cut : ℕ → Option ℕ → Option ℕ
cut d None = None
cut d (Some k) = if nat_lt d k then None else Some k

cut-nearer : (d : ℕ) (a b : Option ℕ) → cut d (nearer a b) ≡ nearer (cut d a) (cut d b)
cut-nearer d None b = refl
cut-nearer d (Some a) None = nearer_none (cut d (Some a))
  where
    nearer_none : (o : Option ℕ) → o ≡ nearer o None
    nearer_none None = refl
    nearer_none (Some k) = refl
cut-nearer d (Some a) (Some b) = grind (arith, nat_tests)

is_at-cut : (d : ℕ) (o : Option ℕ) → is_at d (cut d o) ≡ is_at d o
is_at-cut d None = refl
is_at-cut d (Some k) = grind (arith, nat_tests)

cut-shifted : (d : ℕ) (o : Option ℕ) → cut d o ≡ None → cut (suc d) (option_map (shifted_variable 0 1) o) ≡ None
cut-shifted d None h = refl
cut-shifted d (Some k) h = grind (arith, nat_tests)

cut-shifted_none : (o : Option ℕ) → cut 0 (option_map (shifted_variable 0 1) o) ≡ None
cut-shifted_none None = refl
cut-shifted_none (Some k) = grind (arith, nat_tests)

cut_parts : (d : ℕ) (a b : Option ℕ) → cut d (nearer a b) ≡ None → (cut d a ≡ None) × (cut d b ≡ None)
cut_parts d None b h = (refl, h)
cut_parts d (Some a) None h = (h, refl)
cut_parts d (Some a) (Some b) h = (grind (arith, nat_tests), grind (arith, nat_tests))

not_at : (d : ℕ) (o : Option ℕ) → cut d o ≡ None → is_at d o ≡ false
not_at d None h = refl
not_at d (Some k) h = grind (arith, nat_tests)

-- a term without a variable up to d has no place of the binder d
mutual
  term_clear : (universe : Universe) (env : List ℤ) (d : ℕ) (t : Term) → cut d (innermost t) ≡ None → term_keeps universe env d t ≡ true
  term_clear universe env d (variable k) h = refl
  term_clear universe env d (int z) h = refl
  term_clear universe env d (constant z) h = refl
  term_clear universe env d (event s ts) h = terms_clear universe env d (row_of universe.events s) ts h
  term_clear universe env d (fluent s ts) h = terms_clear universe env d (row_of universe.fluents s) ts h
  term_clear universe env d (sum x y) h = let p = cut_parts d (innermost x) (innermost y) h in rw (term_clear universe env d x p.0, term_clear universe env d y p.1) refl
  term_clear universe env d (difference x y) h = let p = cut_parts d (innermost x) (innermost y) h in rw (term_clear universe env d x p.0, term_clear universe env d y p.1) refl
  term_clear universe env d (product x y) h = let p = cut_parts d (innermost x) (innermost y) h in rw (term_clear universe env d x p.0, term_clear universe env d y p.1) refl

  terms_clear : (universe : Universe) (env : List ℤ) (d : ℕ) (ss : List ℕ) (ts : Terms) → cut d (innermost_of ts) ≡ None → terms_keep universe env d ss ts ≡ true
  terms_clear universe env d ss no_terms h = refl
  terms_clear universe env d [] (term t ts) h = let p = cut_parts d (innermost t) (innermost_of ts) h in rw (term_clear universe env d t p.0, terms_clear universe env d [] ts p.1) refl
  terms_clear universe env d (s ∷ ss) (term t ts) h = let p = cut_parts d (innermost t) (innermost_of ts) h in rw (not_at d (innermost t) p.0, term_clear universe env d t p.0, terms_clear universe env d ss ts p.1) refl

slice_get-substituted : (front env : List ℤ) (v : ℤ) (k : ℕ) → slice_get (front ++ v ∷ env) k ≡ (if nat_lt k (length front) then slice_get (front ++ env) k else (if k == length front then Some v else slice_get (front ++ env) (k - 1)))
slice_get-substituted [] env v zero = grind (arith, nat_tests)
slice_get-substituted [] env v (suc k) = let e : suc k - 1 ≡ k = omega arith in grind (arith, nat_tests)
slice_get-substituted (x ∷ front) env v zero = grind (arith, nat_tests)
slice_get-substituted (x ∷ front) env v (suc k) = later k (slice_get-substituted front env v k)
  where
    later : (k : ℕ) → slice_get (front ++ v ∷ env) k ≡ (if nat_lt k (length front) then slice_get (front ++ env) k else (if k == length front then Some v else slice_get (front ++ env) (k - 1))) → slice_get (front ++ v ∷ env) k ≡ (if nat_lt (suc k) (length (x ∷ front)) then slice_get (front ++ env) k else (if suc k == length (x ∷ front) then Some v else slice_get (x ∷ front ++ env) (suc k - 1)))
    later zero h = grind (arith, nat_tests, h)
    later (suc j) h = let e : suc (suc j) - 1 ≡ suc j = omega arith in let e' : suc j - 1 ≡ j = omega arith in grind (arith, nat_tests, h)

module _ (universe : Universe) (m : Structure) (env : List ℤ) (v : ℤ) where
  variable-substituted : (front : List ℤ) (t : Term) (k : ℕ) → value universe (front ++ env) t ≡ v → value universe (front ++ env) (substituted_variable (length front) t k) ≡ unwrap_or (slice_get (front ++ v ∷ env) k) (pos 0)
  variable-substituted front t k e = rw (slice_get-substituted front env v k) (cases (nat_lt k (length front)) (k == length front))
    where
      cases : (b c : Bool) → value universe (front ++ env) (if b then variable k else (if c then t else variable (k - 1))) ≡ unwrap_or (if b then slice_get (front ++ env) k else (if c then Some v else slice_get (front ++ env) (k - 1))) (pos 0)
      cases true c = refl
      cases false true = e
      cases false false = refl

  mutual
    value-substituted : (front : List ℤ) (t u : Term) → value universe (front ++ env) t ≡ v → value universe (front ++ env) (substituted_term (length front) t u) ≡ value universe (front ++ v ∷ env) u
    value-substituted front t (variable k) e = variable-substituted front t k e
    value-substituted front t (int z) e = refl
    value-substituted front t (constant c) e = refl
    value-substituted front t (event s us) e = rw (values-substituted front t us e) refl
    value-substituted front t (fluent s us) e = rw (values-substituted front t us e) refl
    value-substituted front t (sum x y) e = rw (value-substituted front t x e, value-substituted front t y e) refl
    value-substituted front t (difference x y) e = rw (value-substituted front t x e, value-substituted front t y e) refl
    value-substituted front t (product x y) e = rw (value-substituted front t x e, value-substituted front t y e) refl

    values-substituted : (front : List ℤ) (t : Term) (us : Terms) → value universe (front ++ env) t ≡ v → values universe (front ++ env) (substituted_terms (length front) t us) ≡ values universe (front ++ v ∷ env) us
    values-substituted front t no_terms e = refl
    values-substituted front t (term u us) e = rw (value-substituted front t u e, values-substituted front t us e) refl

  variable-cut : (front : List ℤ) (t : Term) (d k : ℕ) → d < length front → cut d (innermost t) ≡ None → cut d (innermost (substituted_variable (length front) t k)) ≡ cut d (Some k)
  variable-cut front t d k h c = cases (nat_lt k (length front)) (k == length front) refl refl
    where
      cases : (b e : Bool) → nat_lt k (length front) ≡ b → (k == length front) ≡ e → cut d (innermost (if b then variable k else (if e then t else variable (k - 1)))) ≡ cut d (Some k)
      cases true e p q = refl
      cases false true p q = c ∙ sym (past k (grind (arith, nat_tests)))
        where
          past : (j : ℕ) → d < j → cut d (Some j) ≡ None
          past j l = grind (arith, nat_tests)
      cases false false p q = past (k - 1) (grind (arith, nat_tests)) ∙ sym (past k (grind (arith, nat_tests)))
        where
          past : (j : ℕ) → d < j → cut d (Some j) ≡ None
          past j l = grind (arith, nat_tests)

  mutual
    innermost-substituted : (front : List ℤ) (t : Term) (d : ℕ) (u : Term) → d < length front → cut d (innermost t) ≡ None → cut d (innermost (substituted_term (length front) t u)) ≡ cut d (innermost u)
    innermost-substituted front t d (variable k) h c = variable-cut front t d k h c
    innermost-substituted front t d (int z) h c = refl
    innermost-substituted front t d (constant z) h c = refl
    innermost-substituted front t d (event s us) h c = innermost_of-substituted front t d us h c
    innermost-substituted front t d (fluent s us) h c = innermost_of-substituted front t d us h c
    innermost-substituted front t d (sum x y) h c = cut-nearer d (innermost (substituted_term (length front) t x)) (innermost (substituted_term (length front) t y)) ∙ rw (innermost-substituted front t d x h c, innermost-substituted front t d y h c) (sym (cut-nearer d (innermost x) (innermost y)))
    innermost-substituted front t d (difference x y) h c = cut-nearer d (innermost (substituted_term (length front) t x)) (innermost (substituted_term (length front) t y)) ∙ rw (innermost-substituted front t d x h c, innermost-substituted front t d y h c) (sym (cut-nearer d (innermost x) (innermost y)))
    innermost-substituted front t d (product x y) h c = cut-nearer d (innermost (substituted_term (length front) t x)) (innermost (substituted_term (length front) t y)) ∙ rw (innermost-substituted front t d x h c, innermost-substituted front t d y h c) (sym (cut-nearer d (innermost x) (innermost y)))

    innermost_of-substituted : (front : List ℤ) (t : Term) (d : ℕ) (us : Terms) → d < length front → cut d (innermost t) ≡ None → cut d (innermost_of (substituted_terms (length front) t us)) ≡ cut d (innermost_of us)
    innermost_of-substituted front t d no_terms h c = refl
    innermost_of-substituted front t d (term u us) h c = cut-nearer d (innermost (substituted_term (length front) t u)) (innermost_of (substituted_terms (length front) t us)) ∙ rw (innermost-substituted front t d u h c, innermost_of-substituted front t d us h c) (sym (cut-nearer d (innermost u) (innermost_of us)))

  is_at-substituted : (front : List ℤ) (t : Term) (d : ℕ) (u : Term) → d < length front → cut d (innermost t) ≡ None → is_at d (innermost (substituted_term (length front) t u)) ≡ is_at d (innermost u)
  is_at-substituted front t d u h c = sym (is_at-cut d (innermost (substituted_term (length front) t u))) ∙ (ap (is_at d) (innermost-substituted front t d u h c) ∙ is_at-cut d (innermost u))

  place-substituted : (front : List ℤ) (t : Term) (d s : ℕ) (u : Term) → d < length front → cut d (innermost t) ≡ None → value universe (front ++ env) t ≡ v → place_in_range universe (front ++ env) d s (substituted_term (length front) t u) ≡ place_in_range universe (front ++ v ∷ env) d s u
  place-substituted front t d s u h c e = rw (is_at-substituted front t d u h c, value-substituted front t u e) refl

  variable-keeps : (front : List ℤ) (t : Term) (d k : ℕ) → cut d (innermost t) ≡ None → term_keeps universe (front ++ env) d (substituted_variable (length front) t k) ≡ true
  variable-keeps front t d k c = cases (nat_lt k (length front)) (k == length front)
    where
      cases : (b f : Bool) → term_keeps universe (front ++ env) d (if b then variable k else (if f then t else variable (k - 1))) ≡ true
      cases true f = refl
      cases false true = term_clear universe (front ++ env) d t c
      cases false false = refl

  mutual
    term_keeps-substituted : (front : List ℤ) (t : Term) (d : ℕ) (u : Term) → d < length front → cut d (innermost t) ≡ None → value universe (front ++ env) t ≡ v → term_keeps universe (front ++ env) d (substituted_term (length front) t u) ≡ term_keeps universe (front ++ v ∷ env) d u
    term_keeps-substituted front t d (variable k) h c e = variable-keeps front t d k c
    term_keeps-substituted front t d (int z) h c e = refl
    term_keeps-substituted front t d (constant z) h c e = refl
    term_keeps-substituted front t d (event s us) h c e = terms_keep-substituted front t d (row_of universe.events s) us h c e
    term_keeps-substituted front t d (fluent s us) h c e = terms_keep-substituted front t d (row_of universe.fluents s) us h c e
    term_keeps-substituted front t d (sum x y) h c e = rw (term_keeps-substituted front t d x h c e, term_keeps-substituted front t d y h c e) refl
    term_keeps-substituted front t d (difference x y) h c e = rw (term_keeps-substituted front t d x h c e, term_keeps-substituted front t d y h c e) refl
    term_keeps-substituted front t d (product x y) h c e = rw (term_keeps-substituted front t d x h c e, term_keeps-substituted front t d y h c e) refl

    terms_keep-substituted : (front : List ℤ) (t : Term) (d : ℕ) (ss : List ℕ) (us : Terms) → d < length front → cut d (innermost t) ≡ None → value universe (front ++ env) t ≡ v → terms_keep universe (front ++ env) d ss (substituted_terms (length front) t us) ≡ terms_keep universe (front ++ v ∷ env) d ss us
    terms_keep-substituted front t d ss no_terms h c e = refl
    terms_keep-substituted front t d [] (term u us) h c e = rw (term_keeps-substituted front t d u h c e, terms_keep-substituted front t d [] us h c e) refl
    terms_keep-substituted front t d (s ∷ ss) (term u us) h c e = rw (place-substituted front t d s u h c e, term_keeps-substituted front t d u h c e, terms_keep-substituted front t d ss us h c e) refl

  -- under one more binder
  raised_value : (front : List ℤ) (t : Term) (w : ℤ) → value universe (front ++ env) t ≡ v → value universe (w ∷ front ++ env) (shifted_term 0 1 t) ≡ v
  raised_value front t w e = value-shifted universe m (w ∷ []) (front ++ env) [] t ∙ e

  raised_cut : (t : Term) (d : ℕ) → cut d (innermost t) ≡ None → cut (suc d) (innermost (shifted_term 0 1 t)) ≡ None
  raised_cut t d c = rw (innermost-shifted 0 1 t) (cut-shifted d (innermost t) c)

  mutual
    keeps-substituted : (front : List ℤ) (t : Term) (d : ℕ) (f : Formula) → d < length front → cut d (innermost t) ≡ None → value universe (front ++ env) t ≡ v → keeps universe (front ++ env) d (substituted (length front) t f) ≡ keeps universe (front ++ v ∷ env) d f
    keeps-substituted front t d verum h c e = refl
    keeps-substituted front t d falsum h c e = refl
    keeps-substituted front t d (atom p us) h c e = terms_keep-substituted front t d (row_of universe.predicates p) us h c e
    keeps-substituted front t d (equal x y) h c e = rw (term_keeps-substituted front t d x h c e, term_keeps-substituted front t d y h c e) refl
    keeps-substituted front t d (less x y) h c e = rw (term_keeps-substituted front t d x h c e, term_keeps-substituted front t d y h c e) refl
    keeps-substituted front t d (negation f) h c e = keeps-substituted front t d f h c e
    keeps-substituted front t d (all_of fs) h c e = all_keep-substituted front t d fs h c e
    keeps-substituted front t d (any_of fs) h c e = all_keep-substituted front t d fs h c e
    keeps-substituted front t d (implies f g) h c e = rw (keeps-substituted front t d f h c e, keeps-substituted front t d g h c e) refl
    keeps-substituted front t d (iff f g) h c e = rw (keeps-substituted front t d f h c e, keeps-substituted front t d g h c e) refl
    keeps-substituted front t d (for_all s f) h c e = keeps-substituted (pos 0 ∷ front) (shifted_term 0 1 t) (suc d) f (omega (arith, h)) (raised_cut t d c) (raised_value front t (pos 0) e)
    keeps-substituted front t d (exists s f) h c e = keeps-substituted (pos 0 ∷ front) (shifted_term 0 1 t) (suc d) f (omega (arith, h)) (raised_cut t d c) (raised_value front t (pos 0) e)

    all_keep-substituted : (front : List ℤ) (t : Term) (d : ℕ) (fs : Formulas) → d < length front → cut d (innermost t) ≡ None → value universe (front ++ env) t ≡ v → all_keep universe (front ++ env) d (substituted_each (length front) t fs) ≡ all_keep universe (front ++ v ∷ env) d fs
    all_keep-substituted front t d no_formulas h c e = refl
    all_keep-substituted front t d (formula f fs) h c e = rw (keeps-substituted front t d f h c e, all_keep-substituted front t d fs h c e) refl

  kept_values-substituted : (front : List ℤ) (t : Term) (s : ℕ) (f : Formula) → value universe (front ++ env) t ≡ v → kept_values universe (front ++ env) s (substituted (suc (length front)) (shifted_term 0 1 t) f) ≡ kept_values universe (front ++ v ∷ env) s f
  kept_values-substituted front t s f e = ap (λ test. filter test (domain universe s)) (fun_ext (λ w. keeps-substituted (w ∷ front) (shifted_term 0 1 t) 0 f (omega arith) (rw (innermost-shifted 0 1 t) (cut-shifted_none (innermost t))) (raised_value front t w e)))

  mutual
    -- the truth with a term substituted in is the truth with its value substituted in
    pub truth-substituted : (front : List ℤ) (t : Term) (f : Formula) → value universe (front ++ env) t ≡ v → truth universe m (front ++ env) (substituted (length front) t f) ≡ truth universe m (front ++ v ∷ env) f
    truth-substituted front t verum e = refl
    truth-substituted front t falsum e = refl
    truth-substituted front t (atom p us) e = ap (m p) (values-substituted front t us e)
    truth-substituted front t (equal x y) e = rw (value-substituted front t x e, value-substituted front t y e) refl
    truth-substituted front t (less x y) e = rw (value-substituted front t x e, value-substituted front t y e) refl
    truth-substituted front t (negation f) e = ap not (truth-substituted front t f e)
    truth-substituted front t (all_of fs) e = all_true-substituted front t fs e
    truth-substituted front t (any_of fs) e = any_true-substituted front t fs e
    truth-substituted front t (implies f g) e = rw (truth-substituted front t f e, truth-substituted front t g e) refl
    truth-substituted front t (iff f g) e = rw (truth-substituted front t f e, truth-substituted front t g e) refl
    truth-substituted front t (for_all s f) e = rw (kept_values-substituted front t s f e) (ap (λ test. list_all test (kept_values universe (front ++ v ∷ env) s f)) (fun_ext (λ w. truth-substituted (w ∷ front) (shifted_term 0 1 t) f (raised_value front t w e))))
    truth-substituted front t (exists s f) e = rw (kept_values-substituted front t s f e) (ap (λ test. list_any test (kept_values universe (front ++ v ∷ env) s f)) (fun_ext (λ w. truth-substituted (w ∷ front) (shifted_term 0 1 t) f (raised_value front t w e))))

    all_true-substituted : (front : List ℤ) (t : Term) (fs : Formulas) → value universe (front ++ env) t ≡ v → all_true universe m (front ++ env) (substituted_each (length front) t fs) ≡ all_true universe m (front ++ v ∷ env) fs
    all_true-substituted front t no_formulas e = refl
    all_true-substituted front t (formula f fs) e = rw (truth-substituted front t f e, all_true-substituted front t fs e) refl

    any_true-substituted : (front : List ℤ) (t : Term) (fs : Formulas) → value universe (front ++ env) t ≡ v → any_true universe m (front ++ env) (substituted_each (length front) t fs) ≡ any_true universe m (front ++ v ∷ env) fs
    any_true-substituted front t no_formulas e = refl
    any_true-substituted front t (formula f fs) e = rw (truth-substituted front t f e, any_true-substituted front t fs e) refl

pub substituted_puts_value : (at : ℕ) (t : Term) (f : Formula) → PutsValue at t f (substituted at t f)
substituted_puts_value at t f universe m front env h = rw (← h) (truth-substituted universe m env (value universe (front ++ env) t) front t f refl)
