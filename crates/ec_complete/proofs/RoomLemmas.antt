-- The numbers of the paths of a valid sentence, and of what is written of them, are small.
use Rattle.std.proofs.Common.{◌≡◌, ℕ, suc, ◌+◌, ◌<◌, ◌≤◌, ◌^◌, List, [], ◌∷◌, ◌++◌, length, map, drop, get_or, All, ℤ, Option, Some, None, option_map, unwrap_or, slice_get, refl, arith}
use Rattle.std.specs.List.{flat_map}
use Rattle.std.proofs.lemmas.Bool.Decides.{nat_tests}
use Rattle.std.proofs.lemmas.List.Elements.{All-cons, All-nil}
use Rattle.std.proofs.lemmas.Option.{slice_get-map}
use Rattle.ec_logic.specs.Tree.{Term, variable, int, constant, event, fluent, sum, difference, product, Terms, no_terms, term, Formula, verum, falsum, atom, equal, less, negation, all_of, any_of, implies, iff, for_all, exists, Formulas, no_formulas, formula}
use Rattle.ec_logic.specs.TreeList.{formulas_of}
use Rattle.ec_logic.specs.Signature.{Signature, SymbolRow, integer_sort}
use Rattle.ec_logic.specs.Universe.{Universe, argument_sorts, extent_at, row_of}
use Rattle.ec_logic.specs.Place.{innermost, is_at}
use Rattle.ec_logic.specs.Shift.{shifted_variable}
use Rattle.ec_logic.specs.Reach.{reach, reach_of, nesting, nesting_of, CanShiftTerm, CanShiftTerms, CanShift, CanShiftEach}
use Rattle.ec_logic.specs.Sorting.{is_argument_of, Fits, AllFit, IsWellSorted, AreWellSorted}
use Rattle.ec_logic.specs.Valid.{IsSignature, IsListable, EachSymbol}
use Rattle.ec_logic.specs.ValidTheory.{binder_limit, IsValidSentence}
use Rattle.ec_logic.specs.Paths.{Step, binder, body, Path, under, paths, paths_of, binders}
use Rattle.ec_logic.proofs.Tests.{test_cases}
use Rattle.ec_complete.specs.Completion.{lowered, lowered_terms, bounds, comparisons, place_ranges, term_ranges, terms_ranges, ranges, ranges_of}
use Rattle.ec_complete.specs.Room.{formula_reach, formulas_reach, IsLow, AreLow, HasRoom}
use Rattle.ec_complete.proofs.Closing.{has_binder}
use Rattle.ec_complete.proofs.Instances.{Each, each_map, each_append, each_grows}
use Rattle.ec_complete.proofs.Views.{item_at}
use Rattle.ec_complete.proofs.Defining.{arity, paths_arity, first_of, rest_of}

-- ---- variables of a sentence are of its binders

module _ (signature : Signature) where
  mutual
    term_reach : (scope : List ℕ) (s : ℕ) (t : Term) → Fits signature scope s t → reach t ≤ length scope
    term_reach scope s (variable k) h = has_binder (is_argument_of signature s) scope k h
    term_reach scope s (int z) h = omega arith
    term_reach scope s (constant c) h = omega arith
    term_reach scope s (event e ts) h = terms_reach scope (row_of (argument_sorts signature.events) e) ts h.2
    term_reach scope s (fluent e ts) h = terms_reach scope (row_of (argument_sorts signature.fluents) e) ts h.2
    term_reach scope s (sum a b) h = omega (arith, term_reach scope integer_sort a h.1, term_reach scope integer_sort b h.2)
    term_reach scope s (difference a b) h = omega (arith, term_reach scope integer_sort a h.1, term_reach scope integer_sort b h.2)
    term_reach scope s (product a b) h = omega (arith, term_reach scope integer_sort a h.1, term_reach scope integer_sort b h.2)

    terms_reach : (scope ss : List ℕ) (ts : Terms) → AllFit signature scope ss ts → reach_of ts ≤ length scope
    terms_reach scope ss no_terms h = omega arith
    terms_reach scope [] (term t ts) h = absurd h
    terms_reach scope (s ∷ ss) (term t ts) h = omega (arith, term_reach scope s t h.0, terms_reach scope ss ts h.1)

  mutual
    formula_within : (scope : List ℕ) (f : Formula) → IsWellSorted signature scope f → formula_reach f ≤ length scope + nesting f
    formula_within scope verum h = omega arith
    formula_within scope falsum h = omega arith
    formula_within scope (atom p ts) h = omega (arith, terms_reach scope (row_of (argument_sorts signature.predicates) p) ts h.1)
    formula_within scope (equal a b) h = omega (arith, term_reach scope h.left_sort a h.left, term_reach scope h.right_sort b h.right)
    formula_within scope (less a b) h = omega (arith, term_reach scope integer_sort a h.0, term_reach scope integer_sort b h.1)
    formula_within scope (negation f) h = formula_within scope f h
    formula_within scope (all_of fs) h = formulas_within scope fs h
    formula_within scope (any_of fs) h = formulas_within scope fs h
    formula_within scope (implies f g) h = omega (arith, formula_within scope f h.0, formula_within scope g h.1)
    formula_within scope (iff f g) h = omega (arith, formula_within scope f h.0, formula_within scope g h.1)
    formula_within scope (for_all s f) h = omega (arith, formula_within (s ∷ scope) f h.1)
    formula_within scope (exists s f) h = omega (arith, formula_within (s ∷ scope) f h.1)

    formulas_within : (scope : List ℕ) (fs : Formulas) → AreWellSorted signature scope fs → formulas_reach fs ≤ length scope + nesting_of fs
    formulas_within scope no_formulas h = omega arith
    formulas_within scope (formula f fs) h = omega (arith, formula_within scope f h.0, formulas_within scope fs h.1)

-- ---- the paths of a sentence

abbrev Low : ℕ → Path → Type 0
Low n q = AreLow q.steps × (binders q.steps ≤ n)

mutual
  paths_low : (f : Formula) → formula_reach f ≤ binder_limit → nesting f ≤ binder_limit → Each (Low (nesting f)) (paths f)
  paths_low verum r n = tt
  paths_low falsum r n = tt
  paths_low (atom p ts) r n = ((tt, omega arith), tt)
  paths_low (equal a b) r n = tt
  paths_low (less a b) r n = tt
  paths_low (negation f) r n = tt
  paths_low (all_of fs) r n = all_low fs r n
  paths_low (any_of fs) r n = tt
  paths_low (implies f g) r n = each_map (Low (nesting g)) (Low (nesting (implies f g))) (under (body f))
      (λ q l. ((record { reach = omega (arith, r); nesting = omega (arith, n) }, l.0), omega (arith, l.1))) (paths g) (paths_low g (omega (arith, r)) (omega (arith, n)))
  paths_low (iff f g) r n = tt
  paths_low (for_all s f) r n = each_map (Low (nesting f)) (Low (nesting (for_all s f))) (under (binder s f))
      (λ q l. ((record { reach = r; nesting = omega (arith, n) }, l.0), omega (arith, l.1))) (paths f) (paths_low f r (omega (arith, n)))
  paths_low (exists s f) r n = tt

  all_low : (fs : Formulas) → formulas_reach fs ≤ binder_limit → nesting_of fs ≤ binder_limit → Each (Low (nesting_of fs)) (paths_of fs)
  all_low no_formulas r n = tt
  all_low (formula f fs) r n = each_append (Low (nesting_of (formula f fs))) (paths f) (paths_of fs)
      (each_grows (Low (nesting f)) (Low (nesting_of (formula f fs))) (λ q l. (l.0, omega (arith, l.1))) (paths f) (paths_low f (omega (arith, r)) (omega (arith, n))))
      (each_grows (Low (nesting_of fs)) (Low (nesting_of (formula f fs))) (λ q l. (l.0, omega (arith, l.1))) (paths_of fs) (all_low fs (omega (arith, r)) (omega (arith, n))))

few_sorts : (rows : List SymbolRow) (p : ℕ) → EachSymbol rows (λ row. IsListable row.sorts) → length (row_of (argument_sorts rows) p) < 2 ^ 31
few_sorts rows p few = rw (slice_get-map (λ (row : SymbolRow). row.sorts) rows p) (cases (slice_get rows p) refl)
  where
    cases : (o : Option SymbolRow) → slice_get rows p ≡ o → length (unwrap_or (option_map (λ (row : SymbolRow). row.sorts) o) []) < 2 ^ 31
    cases None e = omega arith
    cases (Some row) e = few p row e

both_each : (P Q : Path → Type 0) (qs : List Path) → Each P qs → Each Q qs → Each (λ q. P q × Q q) qs
both_each P Q [] d e = tt
both_each P Q (q ∷ qs) d e = ((d.0, e.0), both_each P Q qs d.1 e.1)

module _ (signature : Signature) (valid : IsSignature signature) where
  sentence_room : (f : Formula) → IsValidSentence signature f → Each HasRoom (paths f)
  sentence_room f h =
      let within = formula_within signature [] f h.sentence.well_sorted in
      let low = paths_low f (omega (arith, within, h.nested)) h.nested in
      each_grows (λ q. Low (nesting f) q × arity signature q) HasRoom
      (λ q l. record { steps = l.0.0; binders = omega (arith, l.0.1, h.nested); args = rw l.1 (few_sorts signature.predicates q.predicate valid.listable.predicate_sorts) })
      (paths f) (both_each (Low (nesting f)) (arity signature) (paths f) low (paths_arity signature [] f h.sentence.well_sorted))

  sentences_room : (fs : List Formula) → All (IsValidSentence signature) fs → Each HasRoom (flat_map paths fs)
  sentences_room [] h = tt
  sentences_room (f ∷ fs) h = each_append HasRoom (paths f) (flat_map paths fs) (sentence_room f (first_of (IsValidSentence signature) f fs h)) (sentences_room fs (rest_of (IsValidSentence signature) f fs h))

all_of_each : {X : Type 0} (view : X → Path) (xs : List X) → Each HasRoom (map view xs) → All (λ x. HasRoom (view x)) xs
all_of_each view [] h = All-nil (λ x. HasRoom (view x))
all_of_each view (x ∷ xs) h = All-cons (λ y. HasRoom (view y)) x xs h.0 (all_of_each view xs h.1)

-- each path of valid sentences has room
pub room_of_all : {X : Type 0} (view : X → Path) (xs : List X) (signature : Signature) (fs : List Formula) → IsSignature signature → All (IsValidSentence signature) fs → map view xs ≡ flat_map paths fs → All (λ x. HasRoom (view x)) xs
room_of_all view xs signature fs valid h e = all_of_each view xs (rw e (sentences_room signature valid fs h))

-- ---- what is raised

module _ (by : ℕ) where
  mutual
    term_room : (from : ℕ) (t : Term) → reach t + by ≤ 2 ^ 32 → CanShiftTerm from by t
    term_room from (variable k) h = let e : shifted_variable from by k ≤ k + by = grind (arith, nat_tests) in omega (arith, h, e)
    term_room from (int z) h = tt
    term_room from (constant c) h = tt
    term_room from (event s ts) h = terms_room from ts h
    term_room from (fluent s ts) h = terms_room from ts h
    term_room from (sum a b) h = (term_room from a (omega (arith, h)), term_room from b (omega (arith, h)))
    term_room from (difference a b) h = (term_room from a (omega (arith, h)), term_room from b (omega (arith, h)))
    term_room from (product a b) h = (term_room from a (omega (arith, h)), term_room from b (omega (arith, h)))

    terms_room : (from : ℕ) (ts : Terms) → reach_of ts + by ≤ 2 ^ 32 → CanShiftTerms from by ts
    terms_room from no_terms h = tt
    terms_room from (term t ts) h = (term_room from t (omega (arith, h)), terms_room from ts (omega (arith, h)))

  mutual
    formula_room : (from : ℕ) (f : Formula) → formula_reach f + by ≤ 2 ^ 32 → from + nesting f < 2 ^ 32 → CanShift from by f
    formula_room from verum h n = tt
    formula_room from falsum h n = tt
    formula_room from (atom p ts) h n = terms_room from ts h
    formula_room from (equal a b) h n = (term_room from a (omega (arith, h)), term_room from b (omega (arith, h)))
    formula_room from (less a b) h n = (term_room from a (omega (arith, h)), term_room from b (omega (arith, h)))
    formula_room from (negation f) h n = formula_room from f h n
    formula_room from (all_of fs) h n = formulas_room from fs h n
    formula_room from (any_of fs) h n = formulas_room from fs h n
    formula_room from (implies f g) h n = (formula_room from f (omega (arith, h)) (omega (arith, n)), formula_room from g (omega (arith, h)) (omega (arith, n)))
    formula_room from (iff f g) h n = (formula_room from f (omega (arith, h)) (omega (arith, n)), formula_room from g (omega (arith, h)) (omega (arith, n)))
    formula_room from (for_all s f) h n = (omega (arith, n), formula_room (suc from) f h (omega (arith, n)))
    formula_room from (exists s f) h n = (omega (arith, n), formula_room (suc from) f h (omega (arith, n)))

    formulas_room : (from : ℕ) (fs : Formulas) → formulas_reach fs + by ≤ 2 ^ 32 → from + nesting_of fs < 2 ^ 32 → CanShiftEach from by fs
    formulas_room from no_formulas h n = tt
    formulas_room from (formula f fs) h n = (formula_room from f (omega (arith, h)) (omega (arith, n)), formulas_room from fs (omega (arith, h)) (omega (arith, n)))

  mutual
    lowered_reach : (d : ℕ) (t : Term) → reach (lowered d t) ≤ reach t
    lowered_reach d (variable k) = omega arith
    lowered_reach d (int z) = omega arith
    lowered_reach d (constant c) = omega arith
    lowered_reach d (event s ts) = lowered_reaches d ts
    lowered_reach d (fluent s ts) = lowered_reaches d ts
    lowered_reach d (sum a b) = omega (arith, lowered_reach d a, lowered_reach d b)
    lowered_reach d (difference a b) = omega (arith, lowered_reach d a, lowered_reach d b)
    lowered_reach d (product a b) = omega (arith, lowered_reach d a, lowered_reach d b)

    lowered_reaches : (d : ℕ) (ts : Terms) → reach_of (lowered_terms d ts) ≤ reach_of ts
    lowered_reaches d no_terms = omega arith
    lowered_reaches d (term t ts) = omega (arith, lowered_reach d t, lowered_reaches d ts)

  abbrev AllShift : List Formula → Type 0
  AllShift fs = CanShiftEach 0 by (formulas_of fs)

  join : (xs ys : List Formula) → AllShift xs → AllShift ys → AllShift (xs ++ ys)
  join [] ys h k = k
  join (x ∷ xs) ys h k = (h.0, join xs ys h.1 k)

  comparisons_room : (ends : Option (ℤ × ℤ)) (t : Term) → reach t + by ≤ 2 ^ 32 → AllShift (comparisons ends t)
  comparisons_room None t h = tt
  comparisons_room (Some (least, end)) t h = ((term_room 0 t h, tt), ((term_room 0 t h, tt), tt))

  module _ (universe : Universe) where
    place_room : (d s : ℕ) (t : Term) → reach t + by ≤ 2 ^ 32 → AllShift (place_ranges universe d s t)
    place_room d s t h = test_cases (AllShift (place_ranges universe d s t)) (is_at d (innermost t))
        (λ e. rw e (comparisons_room (bounds (extent_at universe s)) (lowered d t) (omega (arith, h, lowered_reach d t))))
        (λ e. rw e tt)

    mutual
      term_ranges_room : (d : ℕ) (t : Term) → reach t + by ≤ 2 ^ 32 → AllShift (term_ranges universe d t)
      term_ranges_room d (variable k) h = tt
      term_ranges_room d (int z) h = tt
      term_ranges_room d (constant c) h = tt
      term_ranges_room d (event s ts) h = terms_ranges_room d (row_of universe.events s) ts h
      term_ranges_room d (fluent s ts) h = terms_ranges_room d (row_of universe.fluents s) ts h
      term_ranges_room d (sum a b) h = join (term_ranges universe d a) (term_ranges universe d b) (term_ranges_room d a (omega (arith, h))) (term_ranges_room d b (omega (arith, h)))
      term_ranges_room d (difference a b) h = join (term_ranges universe d a) (term_ranges universe d b) (term_ranges_room d a (omega (arith, h))) (term_ranges_room d b (omega (arith, h)))
      term_ranges_room d (product a b) h = join (term_ranges universe d a) (term_ranges universe d b) (term_ranges_room d a (omega (arith, h))) (term_ranges_room d b (omega (arith, h)))

      terms_ranges_room : (d : ℕ) (ss : List ℕ) (ts : Terms) → reach_of ts + by ≤ 2 ^ 32 → AllShift (terms_ranges universe d ss ts)
      terms_ranges_room d ss no_terms h = tt
      terms_ranges_room d [] (term t ts) h = join (term_ranges universe d t) (terms_ranges universe d [] ts) (term_ranges_room d t (omega (arith, h))) (terms_ranges_room d [] ts (omega (arith, h)))
      terms_ranges_room d (s ∷ ss) (term t ts) h = join (place_ranges universe d s t) (term_ranges universe d t ++ terms_ranges universe d ss ts) (place_room d s t (omega (arith, h)))
          (join (term_ranges universe d t) (terms_ranges universe d ss ts) (term_ranges_room d t (omega (arith, h))) (terms_ranges_room d ss ts (omega (arith, h))))

    mutual
      ranges_room : (d : ℕ) (f : Formula) → formula_reach f + by ≤ 2 ^ 32 → AllShift (ranges universe d f)
      ranges_room d verum h = tt
      ranges_room d falsum h = tt
      ranges_room d (atom p ts) h = terms_ranges_room d (row_of universe.predicates p) ts h
      ranges_room d (equal a b) h = join (term_ranges universe d a) (term_ranges universe d b) (term_ranges_room d a (omega (arith, h))) (term_ranges_room d b (omega (arith, h)))
      ranges_room d (less a b) h = join (term_ranges universe d a) (term_ranges universe d b) (term_ranges_room d a (omega (arith, h))) (term_ranges_room d b (omega (arith, h)))
      ranges_room d (negation f) h = ranges_room d f h
      ranges_room d (all_of fs) h = ranges_of_room d fs h
      ranges_room d (any_of fs) h = ranges_of_room d fs h
      ranges_room d (implies f g) h = join (ranges universe d f) (ranges universe d g) (ranges_room d f (omega (arith, h))) (ranges_room d g (omega (arith, h)))
      ranges_room d (iff f g) h = join (ranges universe d f) (ranges universe d g) (ranges_room d f (omega (arith, h))) (ranges_room d g (omega (arith, h)))
      ranges_room d (for_all s f) h = ranges_room (suc d) f h
      ranges_room d (exists s f) h = ranges_room (suc d) f h

      ranges_of_room : (d : ℕ) (fs : Formulas) → formulas_reach fs + by ≤ 2 ^ 32 → AllShift (ranges_of universe d fs)
      ranges_of_room d no_formulas h = tt
      ranges_of_room d (formula f fs) h = join (ranges universe d f) (ranges_of universe d fs) (ranges_room d f (omega (arith, h))) (ranges_of_room d fs (omega (arith, h)))

-- a body of a path can be raised past the binders below it
pub body_shifts : (by : ℕ) (f : Formula) → IsLow f → by ≤ binder_limit → CanShift 0 by f
body_shifts by f low few = formula_room by 0 f (omega (arith, low.reach, few)) (omega (arith, low.nesting))

-- and so can the ranges of a binder's places
pub ranges_shift : (by : ℕ) (universe : Universe) (f : Formula) (found : List Formula) → IsLow f → by ≤ binder_limit → found ≡ ranges universe 0 f → CanShiftEach 0 by (formulas_of found)
ranges_shift by universe f found low few e = rw e (ranges_room by universe 0 f (omega (arith, low.reach, few)))

-- the first of steps that are low
pub low_binder : {A : Type 0} (view : A → Step) (xs : List A) (i s : ℕ) (x : A) (f : Formula) → i < length xs → x ≡ get_or xs i x → view x ≡ binder s f → AreLow (map view (drop i xs)) → IsLow f
low_binder view xs i s x f h e is low = (rw (item_at xs i x h e, is) at low).0

pub low_body : {A : Type 0} (view : A → Step) (xs : List A) (i : ℕ) (x : A) (f : Formula) → i < length xs → x ≡ get_or xs i x → view x ≡ body f → AreLow (map view (drop i xs)) → IsLow f
low_body view xs i x f h e is low = (rw (item_at xs i x h e, is) at low).0
