-- A tuple that a sentence supports is one of its predicate's domains.
use Rattle.std.proofs.Common.{◌≡◌, ℕ, zero, suc, ◌+◌, ◌*◌, ◌==◌, ◌<◌, ◌≤◌, Bool, true, false, ◌&&◌, if◌then◌else◌, filter, map, List, [], ◌∷◌, length, ℤ, pos, negsuc, ◌+ℤ◌, neg_ℤ, Option, Some, None, slice_get, unwrap_or, refl, ap, subst, arith}
use Rattle.std.proofs.lemmas.Bool.Decides.{nat_tests}
use Rattle.std.proofs.lemmas.Int.{ints}
use Rattle.std.specs.List.{list_any, range_with_len}
use Rattle.ec_logic.specs.Tree.{Term, variable, int, constant, event, fluent, sum, difference, product, Terms, no_terms, term, Formula, verum, falsum, atom, equal, less, negation, all_of, any_of, implies, iff, for_all, exists, Formulas, no_formulas, formula}
use Rattle.ec_logic.specs.Signature.{Signature, integer_sort, event_sort, fluent_sort, is_within}
use Rattle.ec_logic.specs.Extent.{Extent, numbers, members, domain_of, in_range, natural}
use Rattle.ec_logic.specs.Universe.{Universe, universe_of, extent_at, extent_of_range, row_of, tuples, tuple_rank, before, place_of, argument_sorts, is_constant_in, domain}
use Rattle.ec_logic.specs.Value.{value, values, same_values}
use Rattle.ec_logic.specs.Place.{innermost, innermost_of, place_in_range, term_keeps, terms_keep, keeps, all_keep}
use Rattle.ec_logic.specs.Truth.{Structure, IsTuple, truth}
use Rattle.ec_logic.specs.Turns.{IsValueOf}
use Rattle.ec_logic.specs.Valid.{IsSignature, range_of, is_integer_sort}
use Rattle.ec_logic.specs.Sorting.{Fits, AllFit, IsWellSorted, AreWellSorted, has_sort, sort_found, is_argument_of}
use Rattle.ec_logic.specs.Bound.{fixed_in_range, fixed_places_fit, all_fixed_fit, has_fixed_in_range, have_fixed_in_range}
use Rattle.ec_logic.specs.ValidTheory.{IsSentence}
use Rattle.ec_logic.specs.ClauseTree.{supports, one_supports}
use Rattle.ec_logic.proofs.Extents.{extent_integer, ground_events, ground_fluents, arguments_length}
use Rattle.ec_logic.proofs.FewAtoms.{event_extent, fluent_extent}
use Rattle.ec_logic.proofs.Numbering.{rank-value_at}
use Rattle.ec_logic.proofs.Tuples.{tuple_rank_below}
use Rattle.ec_logic.proofs.Tests.{and_parts, same_number, same_values_same, or_cases, test_cases}
use Rattle.ec_supported.proofs.KeptPlaces.{AllKeep, keep_parts, keep_under, Below, below_nearer, place_holds}
use Rattle.ec_supported.proofs.SubsortValues.{member_is, plain_sort_extent, constant_known, value_up}
use Rattle.ec_supported.proofs.GroundCounts.{same_count}

-- ---- values in range

in_numbers : (least : ℤ) (size : ℕ) (v : ℤ) → in_range (numbers least size) v ≡ true → IsValueOf (numbers least size) v
in_numbers least size v h = by_offset (v +ℤ neg_ℤ least) refl
  where
    by_offset : (d : ℤ) → v +ℤ neg_ℤ least ≡ d → IsValueOf (numbers least size) v
    by_offset (pos k) e = (k, rw (h, e) refl)
    by_offset (negsuc k) e = absurd (grind (arith, ints, nat_tests))

in_extent : (range : Option (ℤ × ℤ)) (v : ℤ) → in_range (extent_of_range range) v ≡ true → IsValueOf (extent_of_range range) v
in_extent None v h = in_numbers (pos 0) 0 v h
in_extent (Some (low, high)) v h = in_numbers low (unwrap_or (natural (high +ℤ neg_ℤ low +ℤ pos 1)) 0) v h

-- ---- values of a domain

abbrev AllValues : Extent → List ℤ → Type 0
AllValues extent [] = Unit {0}
AllValues extent (v ∷ vs) = IsValueOf extent v × AllValues extent vs

numbers_values : (least : ℤ) (size k n : ℕ) → k + n ≤ size → AllValues (numbers least size) (map (λ i. least +ℤ pos i) (range_with_len k n))
numbers_values least size k zero h = tt
numbers_values least size k (suc n) h = ((k, rank-value_at (numbers least size) k (omega (arith, h))), numbers_values least size (k + 1) n (omega (arith, h)))

members_values : (count : ℕ) (test : ℕ → Bool) (k n : ℕ) → k + n ≤ count → AllValues (members count test) (map pos (filter test (range_with_len k n)))
members_values count test k zero h = tt
members_values count test k (suc n) h =
    let rest = members_values count test (k + 1) n (omega (arith, h)) in
    let A : List ℕ → Type 0 = λ ks. AllValues (members count test) (map pos ks) in
    test_cases (A (filter test (range_with_len k (suc n)))) (test k) (λ t. rw t (member_is count test k (omega (arith, h)) t, rest)) (λ t. rw t rest)

domain_values : (extent : Extent) → AllValues extent (domain_of extent)
domain_values (numbers least size) = numbers_values least size 0 size (omega arith)
domain_values (members count test) = members_values count test 0 count (omega arith)

kept_gives : (extent : Extent) (s k : ℤ → Bool) (P : Type 0) → (vs : List ℤ) → AllValues extent vs → ((v : ℤ) → IsValueOf extent v → k v ≡ true → s v ≡ true → P) → list_any s (filter k vs) ≡ true → P
kept_gives extent s k P [] a l h = cc
kept_gives extent s k P (v ∷ vs) a l h = cases (kept_gives extent s k P vs a.1 l) (k v) refl h
  where
    cases : (list_any s (filter k vs) ≡ true → P) → (b : Bool) → k v ≡ b → list_any s (if b then v ∷ filter k vs else filter k vs) ≡ true → P
    cases ih true e h = or_cases P (s v) (list_any s (filter k vs)) (l v a.0 e) ih h
    cases ih false e h = ih h

-- ---- ground terms

-- the place of a ground term is below their number
before_below : (universe : Universe) (rows : List (List ℕ)) (e k : ℕ) → e < length rows → k < tuples universe (row_of rows e) → before universe rows e + k < before universe rows (length rows)
before_below universe [] e k l h = absurd (omega (arith, l))
before_below universe (ss ∷ rows) zero k l h = omega (arith, h)
before_below universe (ss ∷ rows) (suc e) k l h = omega (arith, before_below universe rows e k (omega (arith, l)) h)

place_is : (universe : Universe) (rows : List (List ℕ)) (e k : ℕ) (vs : List ℤ) → tuple_rank universe (row_of rows e) vs ≡ Some k → place_of universe rows e vs ≡ pos (before universe rows e + k)
place_is universe rows e k vs h = rw h refl

module _ (signature : Signature) (valid : IsSignature signature) where
  abbrev over : Universe
  over = universe_of signature

  -- these values are of sorts of the signature
  abbrev EnvFits : List ℕ → List ℤ → Type 0
  EnvFits [] [] = Unit {0}
  EnvFits (s ∷ scope) (v ∷ x) = (s < length signature.sorts) × IsValueOf (extent_at over s) v × EnvFits scope x
  EnvFits _ _ = ⊥

  env_lengths : (scope : List ℕ) (x : List ℤ) → EnvFits scope x → length scope ≡ length x
  env_lengths [] [] e = refl
  env_lengths [] (v ∷ x) e = absurd e
  env_lengths (s ∷ scope) [] e = absurd e
  env_lengths (s ∷ scope) (v ∷ x) e = ap suc (env_lengths scope x e.2)

  env_at : (scope : List ℕ) (x : List ℤ) (k r : ℕ) → EnvFits scope x → slice_get scope k ≡ Some r → (r < length signature.sorts) × IsValueOf (extent_at over r) (unwrap_or (slice_get x k) (pos 0))
  env_at [] [] k r e h = cc
  env_at [] (v ∷ x) k r e h = absurd e
  env_at (s ∷ scope) [] k r e h = absurd e
  env_at (s ∷ scope) (v ∷ x) zero r e h =
      let same : s ≡ r = cc in
      let P : ℕ → Type 0 = λ q. (q < length signature.sorts) × IsValueOf (extent_at over q) v in
      subst P same (e.0, e.1)
  env_at (s ∷ scope) (v ∷ x) (suc k) r e h = env_at scope x k r e.2 h

  open_below : (test : ℕ → Bool) (scope : List ℕ) (k : ℕ) → has_sort test scope k ≡ true → k < length scope
  open_below test [] k h = cc
  open_below test (s ∷ scope) zero h = omega arith
  open_below test (s ∷ scope) (suc k) h = omega (arith, open_below test scope k h)

  mutual
    fits_below : (scope : List ℕ) (s : ℕ) (t : Term) → Fits signature scope s t → Below (length scope) (innermost t)
    fits_below scope s (variable k) g = open_below (is_argument_of signature s) scope k g
    fits_below scope s (int z) g = tt
    fits_below scope s (constant c) g = tt
    fits_below scope s (event e ts) g = all_below scope (row_of (argument_sorts signature.events) e) ts g.2
    fits_below scope s (fluent e ts) g = all_below scope (row_of (argument_sorts signature.fluents) e) ts g.2
    fits_below scope s (sum a b) g = below_nearer (length scope) (innermost a) (innermost b) (fits_below scope integer_sort a g.1) (fits_below scope integer_sort b g.2)
    fits_below scope s (difference a b) g = below_nearer (length scope) (innermost a) (innermost b) (fits_below scope integer_sort a g.1) (fits_below scope integer_sort b g.2)
    fits_below scope s (product a b) g = below_nearer (length scope) (innermost a) (innermost b) (fits_below scope integer_sort a g.1) (fits_below scope integer_sort b g.2)

    all_below : (scope ss : List ℕ) (ts : Terms) → AllFit signature scope ss ts → Below (length scope) (innermost_of ts)
    all_below scope [] no_terms g = tt
    all_below scope [] (term t ts) g = absurd g
    all_below scope (s ∷ ss) no_terms g = absurd g
    all_below scope (s ∷ ss) (term t ts) g = below_nearer (length scope) (innermost t) (innermost_of ts) (fits_below scope s t g.0) (all_below scope ss ts g.1)

  module _ (scope : List ℕ) (x : List ℤ) (fits : EnvFits scope x) where
    -- a term of a sort of whole numbers is in range, since it is a place
    whole_or : (s : ℕ) (t : Term) → Fits signature scope s t → fixed_in_range over s t ≡ true → AllKeep (λ e d. place_in_range over e d s t) [] x → (is_integer_sort signature s ≡ false → IsValueOf (extent_at over s) (value over x t)) → IsValueOf (extent_at over s) (value over x t)
    whole_or s t g f p other =
        test_cases (IsValueOf (extent_at over s) (value over x t)) (is_integer_sort signature s)
        (λ i.
        let below : Below (length x) (innermost t) = rw (env_lengths scope x fits) at (fits_below scope s t g) in
        let kept = place_holds over s t x below f p in
        let is = extent_integer signature s i in
        rw is (in_extent (range_of signature s) (value over x t) (rw is at kept)))
        other

    -- a variable's value, of a sort above its own
    variable_value : (s k : ℕ) → has_sort (is_argument_of signature s) scope k ≡ true → is_integer_sort signature s ≡ false → IsValueOf (extent_at over s) (unwrap_or (slice_get x k) (pos 0))
    variable_value s k h i = by_sort (slice_get scope k) refl h
      where
        by_sort : (o : Option ℕ) → slice_get scope k ≡ o → sort_found (is_argument_of signature s) o ≡ true → IsValueOf (extent_at over s) (unwrap_or (slice_get x k) (pos 0))
        by_sort None e g = cc
        by_sort (Some r) e g =
            let within : is_within signature r s ≡ true = rw i at g in
            let here = env_at scope x k r fits e in
            value_up signature valid r s (unwrap_or (slice_get x k) (pos 0)) within here.1 here.0 i

    event_value : (s e k : ℕ) (vs : List ℤ) → s ≡ event_sort → e < length signature.events → tuple_rank over (row_of over.events e) vs ≡ Some k → IsValueOf (extent_at over s) (place_of over over.events e vs)
    event_value s e k vs is l h =
        let all = arguments_length signature.events in
        let low = before_below over over.events e k (omega (arith, l, all)) (tuple_rank_below over (row_of over.events e) vs k h) in
        let same = same_count signature (ground_events signature) (ground_fluents signature) 0 0 signature.events (λ j row f i q g. (valid.known_sorts.events j row f i q g, valid.unreified_event_arguments j row f i q g)) in
        let there = member_is (ground_events signature) (λ j. true) (before over over.events e + k) (omega (arith, low, same)) refl in
        rw (is, event_extent signature valid, place_is over over.events e k vs h) there

    fluent_value : (s e k : ℕ) (vs : List ℤ) → s ≡ fluent_sort → e < length signature.fluents → tuple_rank over (row_of over.fluents e) vs ≡ Some k → IsValueOf (extent_at over s) (place_of over over.fluents e vs)
    fluent_value s e k vs is l h =
        let all = arguments_length signature.fluents in
        let low = before_below over over.fluents e k (omega (arith, l, all)) (tuple_rank_below over (row_of over.fluents e) vs k h) in
        let same = same_count signature (ground_events signature) (ground_fluents signature) 0 0 signature.fluents (λ j row f i q g. (valid.known_sorts.fluents j row f i q g, valid.unreified_fluent_arguments j row f i q g)) in
        let there = member_is (ground_fluents signature) (λ j. true) (before over over.fluents e + k) (omega (arith, low, same)) refl in
        rw (is, fluent_extent signature valid, place_is over over.fluents e k vs h) there

    mutual
      in_domain : (s : ℕ) (t : Term) → Fits signature scope s t → fixed_in_range over s t ≡ true → fixed_places_fit over t ≡ true → AllKeep (λ e d. place_in_range over e d s t) [] x → AllKeep (λ e d. term_keeps over e d t) [] x → IsValueOf (extent_at over s) (value over x t)
      in_domain s (variable k) g f q p a = whole_or s (variable k) g f p (λ i. variable_value s k g i)
      in_domain s (int z) g f q p a = whole_or s (int z) g f p (λ i. cc)
      in_domain s (constant c) g f q p a =
          whole_or s (constant c) g f p (λ i. rw (plain_sort_extent signature valid s g.0) (member_is (length signature.constants) (is_constant_in signature s) c (constant_known signature valid s c g.1) g.1))
      in_domain s (event e ts) g f q p a =
          whole_or s (event e ts) g f p (λ i. let r = all_in_domain (row_of over.events e) ts g.2 q a in event_value s e r.0 (values over x ts) g.0 g.1 r.1)
      in_domain s (fluent e ts) g f q p a =
          whole_or s (fluent e ts) g f p (λ i. let r = all_in_domain (row_of over.fluents e) ts g.2 q a in fluent_value s e r.0 (values over x ts) g.0 g.1 r.1)
      in_domain s (sum u v) g f q p a = whole_or s (sum u v) g f p (λ i. let whole = g.0 in cc)
      in_domain s (difference u v) g f q p a = whole_or s (difference u v) g f p (λ i. let whole = g.0 in cc)
      in_domain s (product u v) g f q p a = whole_or s (product u v) g f p (λ i. let whole = g.0 in cc)

      all_in_domain : (ss : List ℕ) (ts : Terms) → AllFit signature scope ss ts → all_fixed_fit over ss ts ≡ true → AllKeep (λ e d. terms_keep over e d ss ts) [] x → (k : ℕ) × (tuple_rank over ss (values over x ts) ≡ Some k)
      all_in_domain [] no_terms g q a = (0, refl)
      all_in_domain [] (term t ts) g q a = absurd g
      all_in_domain (s ∷ ss) no_terms g q a = absurd g
      all_in_domain (s ∷ ss) (term t ts) g q a =
          let fixed = and_parts (fixed_in_range over s t) (fixed_places_fit over t && all_fixed_fit over ss ts) q in
          let inside = and_parts (fixed_places_fit over t) (all_fixed_fit over ss ts) fixed.1 in
          let place = keep_parts (λ e d. terms_keep over e d (s ∷ ss) (term t ts)) (λ e d. place_in_range over e d s t) (λ e d h. (and_parts (place_in_range over e d s t) (term_keeps over e d t && terms_keep over e d ss ts) h).0) [] x a in
          let inner = keep_parts (λ e d. terms_keep over e d (s ∷ ss) (term t ts)) (λ e d. term_keeps over e d t) (λ e d h. (and_parts (term_keeps over e d t) (terms_keep over e d ss ts) (and_parts (place_in_range over e d s t) (term_keeps over e d t && terms_keep over e d ss ts) h).1).0) [] x a in
          let rest = keep_parts (λ e d. terms_keep over e d (s ∷ ss) (term t ts)) (λ e d. terms_keep over e d ss ts) (λ e d h. (and_parts (term_keeps over e d t) (terms_keep over e d ss ts) (and_parts (place_in_range over e d s t) (term_keeps over e d t && terms_keep over e d ss ts) h).1).1) [] x a in
          let first = in_domain s t g.0 fixed.0 inside.0 place inner in
          let others = all_in_domain ss ts g.1 inside.1 rest in
          (first.0 * tuples over ss + others.0, rw (first.1, others.1) refl)

  module _ (m : Structure) (p : ℕ) (vs : List ℤ) where
    mutual
      supported_at : (scope : List ℕ) (x : List ℤ) (f : Formula) → IsWellSorted signature scope f → has_fixed_in_range over f ≡ true → EnvFits scope x → AllKeep (λ e d. keeps over e d f) [] x → supports over m p vs x f ≡ true → IsTuple over p vs
      supported_at scope x verum g q e a s = cc
      supported_at scope x falsum g q e a s = cc
      supported_at scope x (atom r ts) g q e a s =
          let both = and_parts (r == p) (same_values (values over x ts) vs) s in
          let eq = same_number r p both.0 in
          let es = same_values_same (values over x ts) vs both.1 in
          let here = all_in_domain scope x e (row_of over.predicates r) ts g.1 q a in
          let known : r < length over.predicates = omega (arith, g.0, arguments_length signature.predicates) in
          rw (← eq, ← es) (known, here)
      supported_at scope x (equal y z) g q e a s = cc
      supported_at scope x (less y z) g q e a s = cc
      supported_at scope x (negation f) g q e a s = cc
      supported_at scope x (all_of fs) g q e a s = one_at scope x fs g q e a s
      supported_at scope x (any_of fs) g q e a s = cc
      supported_at scope x (implies f h) g q e a s =
          supported_at scope x h g.1 (and_parts (has_fixed_in_range over f) (has_fixed_in_range over h) q).1 e
          (keep_parts (λ e d. keeps over e d (implies f h)) (λ e d. keeps over e d h) (λ e d k. (and_parts (keeps over e d f) (keeps over e d h) k).1) [] x a)
          (and_parts (truth over m x f) (supports over m p vs x h) s).1
      supported_at scope x (iff f h) g q e a s = cc
      supported_at scope x (for_all r f) g q e a s =
          kept_gives (extent_at over r) (λ v. supports over m p vs (v ∷ x) f) (λ v. keeps over (v ∷ x) 0 f) (IsTuple over p vs) (domain over r) (domain_values (extent_at over r))
          (λ v value keep t. supported_at (r ∷ scope) (v ∷ x) f g.1 q (g.0, value, e) (keep, keep_under (λ e d. keeps over e d f) [] x a) t) s
      supported_at scope x (exists r f) g q e a s = cc

      one_at : (scope : List ℕ) (x : List ℤ) (fs : Formulas) → AreWellSorted signature scope fs → have_fixed_in_range over fs ≡ true → EnvFits scope x → AllKeep (λ e d. all_keep over e d fs) [] x → one_supports over m p vs x fs ≡ true → IsTuple over p vs
      one_at scope x no_formulas g q e a s = cc
      one_at scope x (formula f fs) g q e a s =
          let fixed = and_parts (has_fixed_in_range over f) (have_fixed_in_range over fs) q in
          or_cases (IsTuple over p vs) (supports over m p vs x f) (one_supports over m p vs x fs)
          (supported_at scope x f g.0 fixed.0 e (keep_parts (λ e d. all_keep over e d (formula f fs)) (λ e d. keeps over e d f) (λ e d k. (and_parts (keeps over e d f) (all_keep over e d fs) k).0) [] x a))
          (one_at scope x fs g.1 fixed.1 e (keep_parts (λ e d. all_keep over e d (formula f fs)) (λ e d. all_keep over e d fs) (λ e d k. (and_parts (keeps over e d f) (all_keep over e d fs) k).1) [] x a)) s

    -- a tuple that a sentence supports
    pub supported_tuple : (f : Formula) → IsSentence signature f → supports over m p vs [] f ≡ true → IsTuple over p vs
    supported_tuple f sentence s = supported_at [] [] f sentence.well_sorted sentence.fixed_places tt tt s
