-- The comparisons of a binder's places say that it keeps them, and have no other places.
use Rattle.std.proofs.Common.{◌≡◌, ℕ, suc, ◌+◌, Bool, true, not, ◌&&◌, List, [], ◌∷◌, ◌++◌, length, ℤ, pos, ◌+ℤ◌, refl, sym, arith, int_le, int_lt, ◌∙◌}
use Rattle.std.proofs.lemmas.Bool.Decides.{nat_tests}
use Rattle.std.proofs.lemmas.Int.{ints}
use Rattle.std.proofs.lemmas.List.Folds.{list_all-append}
use Rattle.std.specs.List.{list_all}
use Rattle.ec_logic.specs.Tree.{Term, variable, int, constant, event, fluent, sum, difference, product, Terms, no_terms, term, Formula, verum, falsum, atom, equal, less, negation, all_of, any_of, implies, iff, for_all, exists, Formulas, no_formulas, formula}
use Rattle.ec_logic.specs.Universe.{Universe, extent_at, row_of}
use Rattle.ec_logic.specs.Truth.{Structure, truth}
use Rattle.ec_logic.specs.Extent.{Extent, numbers, members, in_range}
use Rattle.ec_logic.specs.Value.{value}
use Rattle.ec_logic.specs.Place.{innermost, is_at, place_in_range, term_keeps, terms_keep, keeps, all_keep}
use Rattle.ec_complete.specs.Completion.{lowered, bounds, comparisons, place_ranges, term_ranges, terms_ranges, ranges, ranges_of}
use Rattle.ec_logic.proofs.Tests.{and_parts}
use Rattle.ec_logic.proofs.Tests.{test_cases}
use Rattle.ec_logic.proofs.Shifting.{value-shifted}
use Rattle.ec_complete.proofs.Anys.{and_true}
use Rattle.ec_complete.proofs.Raising.{Reaches, reaches_at, shifted-lowered, term_keeps-raised}

not_less : (x l : ℤ) → not (int_lt x l) ≡ int_le l x
not_less x l = grind (arith, ints, nat_tests)

join : {A : Type 0} (t : A → Bool) (xs ys : List A) → list_all t xs ≡ true → list_all t ys ≡ true → list_all t (xs ++ ys) ≡ true
join t xs ys h k = rw (list_all-append t xs ys, h) k

module _ (universe : Universe) (m : Structure) (env : List ℤ) where
  pub value-lowered : (pad : List ℤ) (t : Term) → Reaches (length pad) (innermost t) → value universe env (lowered (length pad) t) ≡ value universe (pad ++ env) t
  value-lowered pad t r =
      let e = value-shifted universe m pad env [] (lowered (length pad) t) in
      sym (rw (shifted-lowered (length pad) t r) at e)

  comparisons_say : (s : Extent) (t : Term) (v : ℤ) → value universe env t ≡ v → list_all (truth universe m env) (comparisons (bounds s) t) ≡ in_range s v
  comparisons_say (numbers least size) t v e = rw (e, not_less v least, and_true (int_lt v (least +ℤ pos size))) refl
  comparisons_say (members count test) t v e = refl

  places_say : (pad : List ℤ) (s : ℕ) (t : Term) → list_all (truth universe m env) (place_ranges universe (length pad) s t) ≡ place_in_range universe (pad ++ env) (length pad) s t
  places_say pad s t = test_cases (list_all (truth universe m env) (place_ranges universe (length pad) s t) ≡ place_in_range universe (pad ++ env) (length pad) s t) (is_at (length pad) (innermost t))
      (λ h. rw h (comparisons_say (extent_at universe s) (lowered (length pad) t) (value universe (pad ++ env) t) (value-lowered pad t (reaches_at (length pad) (innermost t) h))))
      (λ h. rw h refl)

  mutual
    term_says : (pad : List ℤ) (t : Term) → list_all (truth universe m env) (term_ranges universe (length pad) t) ≡ term_keeps universe (pad ++ env) (length pad) t
    term_says pad (variable k) = refl
    term_says pad (int z) = refl
    term_says pad (constant c) = refl
    term_says pad (event symbol ts) = terms_say pad (row_of universe.events symbol) ts
    term_says pad (fluent symbol ts) = terms_say pad (row_of universe.fluents symbol) ts
    term_says pad (sum a b) = rw (list_all-append (truth universe m env) (term_ranges universe (length pad) a) (term_ranges universe (length pad) b), term_says pad a, term_says pad b) refl
    term_says pad (difference a b) = rw (list_all-append (truth universe m env) (term_ranges universe (length pad) a) (term_ranges universe (length pad) b), term_says pad a, term_says pad b) refl
    term_says pad (product a b) = rw (list_all-append (truth universe m env) (term_ranges universe (length pad) a) (term_ranges universe (length pad) b), term_says pad a, term_says pad b) refl

    terms_say : (pad : List ℤ) (ss : List ℕ) (ts : Terms) → list_all (truth universe m env) (terms_ranges universe (length pad) ss ts) ≡ terms_keep universe (pad ++ env) (length pad) ss ts
    terms_say pad ss no_terms = refl
    terms_say pad [] (term t ts) = rw (list_all-append (truth universe m env) (term_ranges universe (length pad) t) (terms_ranges universe (length pad) [] ts), term_says pad t, terms_say pad [] ts) refl
    terms_say pad (s ∷ ss) (term t ts) =
        rw (
          list_all-append (truth universe m env) (place_ranges universe (length pad) s t) (term_ranges universe (length pad) t ++ terms_ranges universe (length pad) ss ts),
          list_all-append (truth universe m env) (term_ranges universe (length pad) t) (terms_ranges universe (length pad) ss ts),
          places_say pad s t,
          term_says pad t,
          terms_say pad ss ts,
        ) refl

  mutual
    pub ranges_say : (pad : List ℤ) (f : Formula) → list_all (truth universe m env) (ranges universe (length pad) f) ≡ keeps universe (pad ++ env) (length pad) f
    ranges_say pad verum = refl
    ranges_say pad falsum = refl
    ranges_say pad (atom p ts) = terms_say pad (row_of universe.predicates p) ts
    ranges_say pad (equal a b) = rw (list_all-append (truth universe m env) (term_ranges universe (length pad) a) (term_ranges universe (length pad) b), term_says pad a, term_says pad b) refl
    ranges_say pad (less a b) = rw (list_all-append (truth universe m env) (term_ranges universe (length pad) a) (term_ranges universe (length pad) b), term_says pad a, term_says pad b) refl
    ranges_say pad (negation f) = ranges_say pad f
    ranges_say pad (all_of fs) = ranges_of_say pad fs
    ranges_say pad (any_of fs) = ranges_of_say pad fs
    ranges_say pad (implies f g) = rw (list_all-append (truth universe m env) (ranges universe (length pad) f) (ranges universe (length pad) g), ranges_say pad f, ranges_say pad g) refl
    ranges_say pad (iff f g) = rw (list_all-append (truth universe m env) (ranges universe (length pad) f) (ranges universe (length pad) g), ranges_say pad f, ranges_say pad g) refl
    ranges_say pad (for_all s f) = ranges_say (pos 0 ∷ pad) f
    ranges_say pad (exists s f) = ranges_say (pos 0 ∷ pad) f

    ranges_of_say : (pad : List ℤ) (fs : Formulas) → list_all (truth universe m env) (ranges_of universe (length pad) fs) ≡ all_keep universe (pad ++ env) (length pad) fs
    ranges_of_say pad no_formulas = refl
    ranges_of_say pad (formula f fs) = rw (list_all-append (truth universe m env) (ranges universe (length pad) f) (ranges_of universe (length pad) fs), ranges_say pad f, ranges_of_say pad fs) refl

-- where a formula keeps the places of a binder, the comparisons read from it do too
module _ (universe : Universe) (env : List ℤ) (b : ℕ) where
  comparisons_keep : (s : Extent) (t : Term) → term_keeps universe env b t ≡ true → list_all (keeps universe env b) (comparisons (bounds s) t) ≡ true
  comparisons_keep (numbers least size) t h = rw h refl
  comparisons_keep (members count test) t h = refl

  places_keep : (pad : List ℤ) (e s : ℕ) (t : Term) → e ≡ b + length pad → term_keeps universe (pad ++ env) e t ≡ true → list_all (keeps universe env b) (place_ranges universe (length pad) s t) ≡ true
  places_keep pad e s t i h = test_cases (list_all (keeps universe env b) (place_ranges universe (length pad) s t) ≡ true) (is_at (length pad) (innermost t))
      (λ a.
      let back = shifted-lowered (length pad) t (reaches_at (length pad) (innermost t) a) in
      let same = rw back at (term_keeps-raised universe pad env [] b e (lowered (length pad) t) (omega arith) i) in
      let low : term_keeps universe env b (lowered (length pad) t) ≡ true = sym same ∙ h in
      rw a (comparisons_keep (extent_at universe s) (lowered (length pad) t) low))
      (λ a. rw a refl)

  mutual
    term_ranges_keep : (pad : List ℤ) (e : ℕ) (t : Term) → e ≡ b + length pad → term_keeps universe (pad ++ env) e t ≡ true → list_all (keeps universe env b) (term_ranges universe (length pad) t) ≡ true
    term_ranges_keep pad e (variable k) i h = refl
    term_ranges_keep pad e (int z) i h = refl
    term_ranges_keep pad e (constant c) i h = refl
    term_ranges_keep pad e (event symbol ts) i h = terms_ranges_keep pad e (row_of universe.events symbol) ts i h
    term_ranges_keep pad e (fluent symbol ts) i h = terms_ranges_keep pad e (row_of universe.fluents symbol) ts i h
    term_ranges_keep pad e (sum x y) i h = let both = and_parts (term_keeps universe (pad ++ env) e x) (term_keeps universe (pad ++ env) e y) h in join (keeps universe env b) (term_ranges universe (length pad) x) (term_ranges universe (length pad) y) (term_ranges_keep pad e x i both.0) (term_ranges_keep pad e y i both.1)
    term_ranges_keep pad e (difference x y) i h = let both = and_parts (term_keeps universe (pad ++ env) e x) (term_keeps universe (pad ++ env) e y) h in join (keeps universe env b) (term_ranges universe (length pad) x) (term_ranges universe (length pad) y) (term_ranges_keep pad e x i both.0) (term_ranges_keep pad e y i both.1)
    term_ranges_keep pad e (product x y) i h = let both = and_parts (term_keeps universe (pad ++ env) e x) (term_keeps universe (pad ++ env) e y) h in join (keeps universe env b) (term_ranges universe (length pad) x) (term_ranges universe (length pad) y) (term_ranges_keep pad e x i both.0) (term_ranges_keep pad e y i both.1)

    terms_ranges_keep : (pad : List ℤ) (e : ℕ) (ss : List ℕ) (ts : Terms) → e ≡ b + length pad → terms_keep universe (pad ++ env) e ss ts ≡ true → list_all (keeps universe env b) (terms_ranges universe (length pad) ss ts) ≡ true
    terms_ranges_keep pad e ss no_terms i h = refl
    terms_ranges_keep pad e [] (term t ts) i h = let both = and_parts (term_keeps universe (pad ++ env) e t) (terms_keep universe (pad ++ env) e [] ts) h in join (keeps universe env b) (term_ranges universe (length pad) t) (terms_ranges universe (length pad) [] ts) (term_ranges_keep pad e t i both.0) (terms_ranges_keep pad e [] ts i both.1)
    terms_ranges_keep pad e (s ∷ ss) (term t ts) i h =
        let outer = and_parts (place_in_range universe (pad ++ env) e s t) (term_keeps universe (pad ++ env) e t && terms_keep universe (pad ++ env) e ss ts) h in
        let both = and_parts (term_keeps universe (pad ++ env) e t) (terms_keep universe (pad ++ env) e ss ts) outer.1 in
        join (keeps universe env b) (place_ranges universe (length pad) s t) (term_ranges universe (length pad) t ++ terms_ranges universe (length pad) ss ts) (places_keep pad e s t i both.0)
        (join (keeps universe env b) (term_ranges universe (length pad) t) (terms_ranges universe (length pad) ss ts) (term_ranges_keep pad e t i both.0) (terms_ranges_keep pad e ss ts i both.1))

  mutual
    pub ranges_keep : (pad : List ℤ) (e : ℕ) (f : Formula) → e ≡ b + length pad → keeps universe (pad ++ env) e f ≡ true → list_all (keeps universe env b) (ranges universe (length pad) f) ≡ true
    ranges_keep pad e verum i h = refl
    ranges_keep pad e falsum i h = refl
    ranges_keep pad e (atom p ts) i h = terms_ranges_keep pad e (row_of universe.predicates p) ts i h
    ranges_keep pad e (equal x y) i h = let both = and_parts (term_keeps universe (pad ++ env) e x) (term_keeps universe (pad ++ env) e y) h in join (keeps universe env b) (term_ranges universe (length pad) x) (term_ranges universe (length pad) y) (term_ranges_keep pad e x i both.0) (term_ranges_keep pad e y i both.1)
    ranges_keep pad e (less x y) i h = let both = and_parts (term_keeps universe (pad ++ env) e x) (term_keeps universe (pad ++ env) e y) h in join (keeps universe env b) (term_ranges universe (length pad) x) (term_ranges universe (length pad) y) (term_ranges_keep pad e x i both.0) (term_ranges_keep pad e y i both.1)
    ranges_keep pad e (negation f) i h = ranges_keep pad e f i h
    ranges_keep pad e (all_of fs) i h = ranges_of_keep pad e fs i h
    ranges_keep pad e (any_of fs) i h = ranges_of_keep pad e fs i h
    ranges_keep pad e (implies f g) i h = let both = and_parts (keeps universe (pad ++ env) e f) (keeps universe (pad ++ env) e g) h in join (keeps universe env b) (ranges universe (length pad) f) (ranges universe (length pad) g) (ranges_keep pad e f i both.0) (ranges_keep pad e g i both.1)
    ranges_keep pad e (iff f g) i h = let both = and_parts (keeps universe (pad ++ env) e f) (keeps universe (pad ++ env) e g) h in join (keeps universe env b) (ranges universe (length pad) f) (ranges universe (length pad) g) (ranges_keep pad e f i both.0) (ranges_keep pad e g i both.1)
    ranges_keep pad e (for_all s f) i h = ranges_keep (pos 0 ∷ pad) (suc e) f (omega arith) h
    ranges_keep pad e (exists s f) i h = ranges_keep (pos 0 ∷ pad) (suc e) f (omega arith) h

    ranges_of_keep : (pad : List ℤ) (e : ℕ) (fs : Formulas) → e ≡ b + length pad → all_keep universe (pad ++ env) e fs ≡ true → list_all (keeps universe env b) (ranges_of universe (length pad) fs) ≡ true
    ranges_of_keep pad e no_formulas i h = refl
    ranges_of_keep pad e (formula f fs) i h = let both = and_parts (keeps universe (pad ++ env) e f) (all_keep universe (pad ++ env) e fs) h in join (keeps universe env b) (ranges universe (length pad) f) (ranges_of universe (length pad) fs) (ranges_keep pad e f i both.0) (ranges_of_keep pad e fs i both.1)
