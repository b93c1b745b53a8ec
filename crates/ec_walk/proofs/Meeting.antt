-- The free variables met one after another are the first sixteen of all.
use Rattle.std.proofs.Common.{◌≡◌, ℕ, ◌<◌, ◌≤◌, Bool, true, false, ◌||◌, if◌then◌else◌, nat_le, List, [], ◌∷◌, ◌++◌, length, take, refl, sym, ap, ◌∙◌, subst, arith, append_assoc, length-append, append-nil}
use Rattle.std.proofs.lemmas.Bool.Decides.{nat_tests}
use Rattle.std.proofs.lemmas.List.{take-append-le, take_all}
use Rattle.ec_names.specs.Names.{is_among, firsts_after, itself}
use Rattle.ec_syntax.specs.Written.{Term, name, variable, number, sum, difference, product, negative, Terms, no_terms, term, Formula, atom, compare, not, and, or, implies, iff, for_all, exists, Formulas, no_formulas, formula}
use Rattle.ec_walk.specs.Faults.{opened}
use Rattle.ec_walk.specs.Variables.{free_in_term, free_in_terms, free_in, free_in_each, closed_variables}
use Rattle.ec_walk.specs.Scopes.{met, met_unbound, met_in_term, met_in_terms, met_in, met_in_each}

-- uses met one after another
abbrev pub all_met : List (List ℕ) → List (List ℕ) → List (List ℕ)
all_met found [] = found
all_met found (v ∷ vs) = all_met (met found v) vs

all_met_append : (found a b : List (List ℕ)) → all_met found (a ++ b) ≡ all_met (all_met found a) b
all_met_append found [] b = refl
all_met_append found (v ∷ a) b = all_met_append (met found v) a b

met_one : (scope found : List (List ℕ)) (v : List ℕ) → met_unbound scope found v ≡ all_met found (if is_among v scope then [] else v ∷ [])
met_one scope found v = by_test (is_among v scope)
  where
    by_test : (b : Bool) → (if b then found else met found v) ≡ all_met found (if b then [] else v ∷ [])
    by_test true = refl
    by_test false = refl

-- one part after another
met_two : (found middle last a b : List (List ℕ)) → middle ≡ all_met found a → last ≡ all_met middle b → last ≡ all_met found (a ++ b)
met_two found middle last a b first second = second ∙ ap (λ f. all_met f b) first ∙ sym (all_met_append found a b)

mutual
  met_term : (scope found : List (List ℕ)) (t : Term) → met_in_term scope found t ≡ all_met found (free_in_term scope t)
  met_term scope found (name n ts) = met_terms scope found ts
  met_term scope found (variable v) = met_one scope found v
  met_term scope found (number n) = refl
  met_term scope found (sum a b) = met_two found _ _ (free_in_term scope a) (free_in_term scope b) (met_term scope found a) (met_term scope (met_in_term scope found a) b)
  met_term scope found (difference a b) = met_two found _ _ (free_in_term scope a) (free_in_term scope b) (met_term scope found a) (met_term scope (met_in_term scope found a) b)
  met_term scope found (product a b) = met_two found _ _ (free_in_term scope a) (free_in_term scope b) (met_term scope found a) (met_term scope (met_in_term scope found a) b)
  met_term scope found (negative a) = met_term scope found a

  met_terms : (scope found : List (List ℕ)) (ts : Terms) → met_in_terms scope found ts ≡ all_met found (free_in_terms scope ts)
  met_terms scope found no_terms = refl
  met_terms scope found (term t ts) = met_two found _ _ (free_in_term scope t) (free_in_terms scope ts) (met_term scope found t) (met_terms scope (met_in_term scope found t) ts)

mutual
  met_formula : (scope found : List (List ℕ)) (f : Formula) → met_in scope found f ≡ all_met found (free_in scope f)
  met_formula scope found (atom n ts) = met_terms scope found ts
  met_formula scope found (compare op a b) = met_two found _ _ (free_in_term scope a) (free_in_term scope b) (met_term scope found a) (met_term scope (met_in_term scope found a) b)
  met_formula scope found (not f) = met_formula scope found f
  met_formula scope found (and fs) = met_each scope found fs
  met_formula scope found (or fs) = met_each scope found fs
  met_formula scope found (implies f g) = met_two found _ _ (free_in scope f) (free_in scope g) (met_formula scope found f) (met_formula scope (met_in scope found f) g)
  met_formula scope found (iff f g) = met_two found _ _ (free_in scope f) (free_in scope g) (met_formula scope found f) (met_formula scope (met_in scope found f) g)
  met_formula scope found (for_all vs f) = met_formula (opened scope vs) found f
  met_formula scope found (exists vs f) = met_formula (opened scope vs) found f

  met_each : (scope found : List (List ℕ)) (fs : Formulas) → met_in_each scope found fs ≡ all_met found (free_in_each scope fs)
  met_each scope found no_formulas = refl
  met_each scope found (formula f fs) = met_two found _ _ (free_in scope f) (free_in_each scope fs) (met_formula scope found f) (met_each scope (met_in scope found f) fs)

-- once sixteen are found, no more are
met_full : (found : List (List ℕ)) (v : List ℕ) → 16 ≤ length found → met found v ≡ found
met_full found v full = by_test (is_among v found) (nat_le 16 (length found)) (grind (arith, nat_tests))
  where
    by_test : (b c : Bool) → c ≡ true → (if b || c then found else found ++ v ∷ []) ≡ found
    by_test true c e = refl
    by_test false c e = let P : Bool → Type 0 = λ d. (if d then found else found ++ v ∷ []) ≡ found in subst P (sym e) refl

all_met_full : (found vs : List (List ℕ)) → 16 ≤ length found → all_met found vs ≡ found
all_met_full found [] full = refl
all_met_full found (v ∷ vs) full = ap (λ f. all_met f vs) (met_full found v full) ∙ all_met_full found vs full

-- one more use, of a variable that was found, for which there is no room, or for which there is
firsts_step : (found : List (List ℕ)) (v : List ℕ) (vs : List (List ℕ)) (b c : Bool) → c ≡ nat_le 16 (length found) → length found ≤ 16
    → take 16 (found ++ firsts_after itself found vs) ≡ all_met found vs
    → (length (found ++ v ∷ []) ≤ 16 → take 16 ((found ++ v ∷ []) ++ firsts_after itself (found ++ v ∷ []) vs) ≡ all_met (found ++ v ∷ []) vs)
    → take 16 (found ++ (if b then firsts_after itself found vs else v ∷ firsts_after itself (found ++ v ∷ []) vs)) ≡ all_met (if b || c then found else found ++ v ∷ []) vs
firsts_step found v vs true c e few same more = same
firsts_step found v vs false true e few same more =
    let full : 16 ≤ length found = grind (arith, nat_tests) in
    take-append-le 16 found _ full ∙ take_all _ _ few ∙ sym (all_met_full found vs full)
firsts_step found v vs false false e few same more =
    let room : length found < 16 = grind (arith, nat_tests) in
    let longer : length (found ++ v ∷ []) ≤ 16 = rw (length-append found (v ∷ [])) (omega arith) in
    ap (take 16) (sym (append_assoc found (v ∷ []) (firsts_after itself (found ++ v ∷ []) vs))) ∙ more longer

-- the first sixteen of those found and of what is new among the uses that follow
all_met_firsts : (found vs : List (List ℕ)) → length found ≤ 16 → take 16 (found ++ firsts_after itself found vs) ≡ all_met found vs
all_met_firsts found [] few = rw append-nil (take_all _ _ few)
all_met_firsts found (v ∷ vs) few =
    firsts_step found v vs (is_among v found) (nat_le 16 (length found)) refl few (all_met_firsts found vs few) (λ longer. all_met_firsts (found ++ v ∷ []) vs longer)

pub closed_met : (f : Formula) → met_in [] [] f ≡ closed_variables f
closed_met f = met_formula [] [] f ∙ sym (all_met_firsts [] (free_in [] f) (omega arith))
