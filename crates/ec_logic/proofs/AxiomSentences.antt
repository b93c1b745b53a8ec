-- The axioms are sentences of every signature.
use Rattle.std.proofs.Common.{◌≡◌, ℕ, zero, suc, ◌+◌, ◌<◌, ◌≤◌, max, drop, take-append-drop, Bool, true, false, ◌&&◌, List, [], ◌∷◌, ◌++◌, length, ℤ, pos, negsuc, neg_ℤ, nat_abs, int_le, int_lt, ◌+ℤ◌, unwrap_or, is_none, Option, Some, None, refl, sym, ap, arith, subst, rules, length-append, slice_get, ◌∙◌, All}
use Rattle.std.proofs.lemmas.Int.{ints}
use Rattle.std.proofs.lemmas.Bool.Decides.{nat_tests}
use Rattle.std.proofs.lemmas.Option.{slice_get_within, slice_get-map}
use Rattle.std.specs.List.{AllByRecursion}
use Rattle.ec_logic.specs.Tree.{Terms, fluent, Formula}
use Rattle.ec_logic.specs.Signature.{Signature, is_within, descends, SortRow, ConstantRow, SymbolRow, integer_sort, time_sort, fluent_sort, built_in}
use Rattle.ec_logic.specs.BuiltIn.{built_in_sorts, built_in_predicates}
use Rattle.ec_logic.specs.Extent.{in_range, natural}
use Rattle.ec_logic.specs.Universe.{universe_of, extent_of_range, row_of, argument_sorts}
use Rattle.ec_logic.specs.Place.{innermost_of}
use Rattle.ec_logic.specs.Valid.{IsSignature, is_integer_sort, range_of, is_range, range_limit, has_range, row_range}
use Rattle.ec_logic.specs.Sorting.{IsWellSorted, AllFit, is_argument_of, has_sort}
use Rattle.std.proofs.lemmas.List.Elements.{All-nil, All-from_recursion, All-append}
use Rattle.ec_logic.proofs.Tests.{same_itself, test_cases}
use Rattle.ec_logic.specs.Bound.{greater_end, bound_of_sort, HaveSmallBounds, IsBounded, fixed_in_range, all_fixed_fit, has_fixed_in_range, bound_limit}
use Rattle.ec_logic.specs.Axiom.{DEC5, DEC6, DEC7, DEC8, DEC9, DEC10, DEC11, DEC12, dec_axioms, for_each, variables_from, always_released, not_released_first, release_axiom, release_axioms_from, release_axioms}
use Rattle.ec_logic.specs.ValidTheory.{IsSentence}

small_ends : (low high : ℤ) → is_range (Some (low, high)) ≡ true → max (nat_abs low) (nat_abs high) ≤ range_limit
small_ends low high h = grind (arith, ints, nat_tests)

pub range_end : (range : Option (ℤ × ℤ)) → is_range range ≡ true → greater_end range ≤ range_limit
range_end None h = omega arith
range_end (Some (low, high)) h = small_ends low high h

abbrev least_of_range : Option (ℤ × ℤ) → ℤ
least_of_range None = pos 0
least_of_range (Some range) = range.0

least_bounded : (range : Option (ℤ × ℤ)) → is_range range ≡ true → nat_abs (least_of_range range) ≤ bound_limit
least_bounded None h = omega arith
least_bounded (Some (low, high)) h = omega (arith, small_ends low high h)

-- a signature by its parts, the built-in ones first
abbrev whole_of : Option (ℤ × ℤ) → Option (ℤ × ℤ) → Option (ℤ × ℤ) → List SortRow → List ConstantRow → List SymbolRow → List SymbolRow → List SymbolRow → Bool → Bool → Signature
whole_of integers times offsets more constants events fluents predicates manual diff = record {
  sorts = built_in_sorts integers times offsets ++ more;
  constants = constants;
  events = events;
  fluents = fluents;
  predicates = built_in_predicates ++ predicates;
  manual_release = manual;
  time_diff = diff;
}

module _ (integers times offsets : Option (ℤ × ℤ)) (more : List SortRow) (constants : List ConstantRow) (events fluents predicates : List SymbolRow) (manual diff : Bool) (small : is_range times ≡ true) where
  abbrev whole : Signature
  whole = whole_of integers times offsets more constants events fluents predicates manual diff

  least : greater_end times ≤ range_limit
  least = range_end times small

  DEC5-sorted : IsWellSorted whole [] DEC5
  DEC5-sorted = search rules

  DEC5-bounded : IsBounded whole [] DEC5
  DEC5-bounded = search rules

  DEC6-sorted : IsWellSorted whole [] DEC6
  DEC6-sorted = search rules

  DEC6-bounded : IsBounded whole [] DEC6
  DEC6-bounded = search rules

  DEC7-sorted : IsWellSorted whole [] DEC7
  DEC7-sorted = search rules

  DEC7-bounded : IsBounded whole [] DEC7
  DEC7-bounded = search rules

  DEC8-sorted : IsWellSorted whole [] DEC8
  DEC8-sorted = search rules

  DEC8-bounded : IsBounded whole [] DEC8
  DEC8-bounded = search rules

  DEC9-sorted : IsWellSorted whole [] DEC9
  DEC9-sorted = search rules

  DEC9-bounded : IsBounded whole [] DEC9
  DEC9-bounded = search rules

  DEC10-sorted : IsWellSorted whole [] DEC10
  DEC10-sorted = search rules

  DEC10-bounded : IsBounded whole [] DEC10
  DEC10-bounded = search rules

  DEC11-sorted : IsWellSorted whole [] DEC11
  DEC11-sorted = search rules

  DEC11-bounded : IsBounded whole [] DEC11
  DEC11-bounded = search rules

  DEC12-sorted : IsWellSorted whole [] DEC12
  DEC12-sorted = search rules

  DEC12-bounded : IsBounded whole [] DEC12
  DEC12-bounded = search rules

  pub whole_dec : All (IsSentence whole) dec_axioms
  whole_dec = All-from_recursion (IsSentence whole) dec_axioms (
    record { well_sorted = DEC5-sorted; bounded = DEC5-bounded; fixed_places = refl },
    (
      record { well_sorted = DEC6-sorted; bounded = DEC6-bounded; fixed_places = refl },
      (
        record { well_sorted = DEC7-sorted; bounded = DEC7-bounded; fixed_places = refl },
        (
          record { well_sorted = DEC8-sorted; bounded = DEC8-bounded; fixed_places = refl },
          (
            record { well_sorted = DEC9-sorted; bounded = DEC9-bounded; fixed_places = refl },
            (
              record { well_sorted = DEC10-sorted; bounded = DEC10-bounded; fixed_places = refl },
              (
                record { well_sorted = DEC11-sorted; bounded = DEC11-bounded; fixed_places = refl },
                (
                  record { well_sorted = DEC12-sorted; bounded = DEC12-bounded; fixed_places = refl },
                  tt,
                ),
              ),
            ),
          ),
        ),
      ),
    ),
  )

  -- ---- the release axioms

  -- the scope within binders of these sorts
  abbrev onto : List ℕ → List ℕ → List ℕ
  onto [] scope = scope
  onto (s ∷ ss) scope = onto ss (s ∷ scope)

  onto_at : (ss scope : List ℕ) (k : ℕ) → slice_get (onto ss scope) (length ss + k) ≡ slice_get scope k
  onto_at [] scope k = let e : 0 + k ≡ k = omega arith in rw e refl
  onto_at (s ∷ ss) scope k = let e : length (s ∷ ss) + k ≡ length ss + suc k = omega arith in rw e (onto_at ss (s ∷ scope) (suc k))

  within_itself : (signature : Signature) (s : ℕ) → is_within signature s s ≡ true
  within_itself signature s = by_steps (length signature.sorts)
    where
      by_steps : (n : ℕ) → descends signature n s s ≡ true
      by_steps zero = same_itself s
      by_steps (suc n) = rw (same_itself s) refl

  argument_of_itself : (s : ℕ) → is_argument_of whole s s ≡ true
  argument_of_itself s = test_cases (is_argument_of whole s s ≡ true) (is_integer_sort whole s) (λ h. rw h refl) (λ h. rw h (within_itself whole s))

  -- sorts of the signature
  abbrev known : List ℕ → Type 0
  known ss = AllByRecursion (λ s. s < length whole.sorts) ss

  each_sorted : (ss scope : List ℕ) (f : Formula) → known ss → IsWellSorted whole (onto ss scope) f → IsWellSorted whole scope (for_each ss f)
  each_sorted [] scope f k h = h
  each_sorted (s ∷ ss) scope f k h = (k.0, each_sorted ss (s ∷ scope) f k.1 h)

  each_bounded : (ss scope : List ℕ) (f : Formula) → IsBounded whole (onto ss scope) f → IsBounded whole scope (for_each ss f)
  each_bounded [] scope f h = h
  each_bounded (s ∷ ss) scope f h = each_bounded ss (s ∷ scope) f h

  each_fixed : (ss : List ℕ) (f : Formula) → has_fixed_in_range (universe_of whole) f ≡ true → has_fixed_in_range (universe_of whole) (for_each ss f) ≡ true
  each_fixed [] f h = h
  each_fixed (s ∷ ss) f h = each_fixed ss f h

  -- the binders' variables fit the sorts of the binders
  variable_at : (inner : List ℕ) (ss scope : List ℕ) (s : ℕ) → slice_get (inner ++ onto ss (s ∷ scope)) (length inner + length ss) ≡ Some s
  variable_at [] ss scope s = let e : 0 + length ss ≡ length ss + 0 = omega arith in rw e (onto_at ss (s ∷ scope) 0)
  variable_at (r ∷ inner) ss scope s = let e : length (r ∷ inner) + length ss ≡ suc (length inner + length ss) = omega arith in rw e (variable_at inner ss scope s)

  variables_fit : (inner ss scope : List ℕ) → AllFit whole (inner ++ onto ss scope) ss (variables_from (length inner) (length ss))
  variables_fit inner [] scope = tt
  variables_fit inner (s ∷ ss) scope =
      let found = variable_at inner ss scope s in
      let first : has_sort (is_argument_of whole s) (inner ++ onto ss (s ∷ scope)) (length inner + length ss) ≡ true = rw found (argument_of_itself s) in
      (first, variables_fit inner ss (s ∷ scope))

  variables_bounded : ((s : ℕ) → greater_end (range_of whole s) ≤ range_limit) → (scope : List ℕ) (innermost count : ℕ) → HaveSmallBounds whole scope (variables_from innermost count)
  variables_bounded ends scope innermost zero = tt
  variables_bounded ends scope innermost (suc count) = (by_sort (slice_get scope (innermost + count)), variables_bounded ends scope innermost count)
    where
      by_sort : (o : Option ℕ) → bound_of_sort whole o ≤ bound_limit
      by_sort None = omega arith
      by_sort (Some s) = omega (arith, ends s)

  variables_fixed : (ss : List ℕ) (innermost count : ℕ) → all_fixed_fit (universe_of whole) ss (variables_from innermost count) ≡ true
  variables_fixed ss innermost zero = refl
  variables_fixed [] innermost (suc count) = variables_fixed [] innermost count
  variables_fixed (s ∷ ss) innermost (suc count) = variables_fixed ss innermost count

  -- the place of a fluent is in range, with arguments and without
  fluent_fixed : (number : ℕ) (ts : Terms) → fixed_in_range (universe_of whole) fluent_sort (fluent number ts) ≡ true
  fluent_fixed number ts = test_cases (fixed_in_range (universe_of whole) fluent_sort (fluent number ts) ≡ true) (is_none (innermost_of ts)) (λ h. rw h refl) (λ h. rw h refl)

  least_in_range : (range : Option (ℤ × ℤ)) → is_range range ≡ true → has_range range ≡ true → in_range (extent_of_range range) (least_of_range range) ≡ true
  least_in_range None r h = cc
  least_in_range (Some (low, high)) r h = by_size (high +ℤ neg_ℤ low +ℤ pos 1) refl
    where
      by_size : (d : ℤ) → high +ℤ neg_ℤ low +ℤ pos 1 ≡ d → (int_le low low && int_lt low (low +ℤ pos (unwrap_or (natural d) 0))) ≡ true
      by_size (pos n) e = grind (arith, ints, nat_tests)
      by_size (negsuc n) e = absurd (grind (arith, ints, nat_tests))

  module _ (ends : (s : ℕ) → greater_end (range_of whole s) ≤ range_limit) (number : ℕ) (row : SymbolRow)
      (here : number < length fluents) (sorts_are : row_of (argument_sorts fluents) number ≡ row.sorts) (sorts_known : known row.sorts) where
    always_sentence : IsSentence whole (always_released number row)
    always_sentence = record {
      well_sorted = each_sorted row.sorts [] _ sorts_known (omega arith, (omega arith, ((refl, here, rw sorts_are (variables_fit (time_sort ∷ []) row.sorts [])), (refl, tt))));
      bounded = each_bounded row.sorts [] _ (variables_bounded ends (time_sort ∷ onto row.sorts []) 1 (length row.sorts), (omega arith, tt));
      fixed_places = each_fixed row.sorts _ (rw (fluent_fixed number (variables_from 1 (length row.sorts)), variables_fixed (row_of (argument_sorts fluents) number) 1 (length row.sorts)) refl);
    }

    first_sentence : has_range times ≡ true → IsSentence whole (not_released_first whole number row)
    first_sentence ranged = record {
      well_sorted = each_sorted row.sorts [] _ sorts_known (omega arith, ((refl, here, rw sorts_are (variables_fit [] row.sorts [])), (refl, tt)));
      bounded = each_bounded row.sorts [] _ (variables_bounded ends (onto row.sorts []) 0 (length row.sorts), (least_bounded times small, tt));
      fixed_places = each_fixed row.sorts _ (rw (fluent_fixed number (variables_from 0 (length row.sorts)), variables_fixed (row_of (argument_sorts fluents) number) 0 (length row.sorts), least_in_range times small ranged) refl);
    }

  module _ (ends : (s : ℕ) → greater_end (range_of whole s) ≤ range_limit)
      (arguments : (k : ℕ) (row : SymbolRow) → slice_get fluents k ≡ Some row → known row.sorts)
      (ranged : 0 < length fluents → has_range times ≡ true) where
    one_row : (number : ℕ) (row : SymbolRow) (always manual_release : Bool) → slice_get fluents number ≡ Some row → All (IsSentence whole) (release_axiom whole number row always manual_release)
    one_row number row always manual_release found = by_kind always manual_release
      where
        here : number < length fluents
        here = slice_get_within fluents number row found

        sorts_are : row_of (argument_sorts fluents) number ≡ row.sorts
        sorts_are = rw (slice_get-map (λ (r : SymbolRow). r.sorts) fluents number, found) refl

        by_kind : (a b : Bool) → All (IsSentence whole) (release_axiom whole number row a b)
        by_kind true b = All-from_recursion (IsSentence whole) (always_released number row ∷ []) (always_sentence ends number row here sorts_are (arguments number row found), tt)
        by_kind false true = All-nil (IsSentence whole)
        by_kind false false = All-from_recursion (IsSentence whole) (not_released_first whole number row ∷ []) (first_sentence ends number row here sorts_are (arguments number row found) (ranged (omega (arith, slice_get_within fluents number row found))), tt)

    rows_from : (number : ℕ) (rows : List SymbolRow) → ((k : ℕ) (row : SymbolRow) → slice_get rows k ≡ Some row → slice_get fluents (number + k) ≡ Some row) → All (IsSentence whole) (release_axioms_from whole number rows)
    rows_from number [] inside = All-nil (IsSentence whole)
    rows_from number (row ∷ rows) inside =
        let first : slice_get fluents number ≡ Some row = let e : number + 0 ≡ number = omega arith in rw e at (inside 0 row refl) in
        All-append (IsSentence whole) (release_axiom whole number row row.noninertial manual) (release_axioms_from whole (suc number) rows)
        (one_row number row row.noninertial manual first)
        (rows_from (suc number) rows (λ k other found. let e : number + suc k ≡ suc number + k = omega arith in rw e at (inside (suc k) other found)))

    pub whole_release : All (IsSentence whole) (release_axioms whole)
    whole_release = rows_from 0 fluents (λ k row found. let e : 0 + k ≡ k = omega arith in rw e found)

-- ---- every signature

all_by_places : {A : Type 0} (P : A → Type 0) (xs : List A) → ((i : ℕ) (x : A) → slice_get xs i ≡ Some x → P x) → AllByRecursion P xs
all_by_places P [] h = tt
all_by_places P (x ∷ xs) h = (h 0 x refl, all_by_places P xs (λ i y found. h (suc i) y found))

row_end : (signature : Signature) → IsSignature signature → (s : ℕ) → greater_end (range_of signature s) ≤ range_limit
row_end signature valid s = by_row (slice_get signature.sorts s) refl
  where
    by_row : (o : Option SortRow) → slice_get signature.sorts s ≡ o → greater_end (row_range o) ≤ range_limit
    by_row None found = omega arith
    by_row (Some row) found = range_end row.range (valid.small_ranges s row found)

abbrev rebuilt : Signature → Signature
rebuilt signature = whole_of (range_of signature integer_sort) (range_of signature time_sort) (range_of signature 3) (drop 6 signature.sorts) signature.constants signature.events signature.fluents (drop built_in signature.predicates) signature.manual_release signature.time_diff

rebuilt_same : (signature : Signature) → IsSignature signature → rebuilt signature ≡ signature
rebuilt_same signature valid =
    let sorts : built_in_sorts (range_of signature integer_sort) (range_of signature time_sort) (range_of signature 3) ++ drop 6 signature.sorts ≡ signature.sorts = ap (λ rows. rows ++ drop 6 signature.sorts) (sym valid.built_in_first.sorts) ∙ take-append-drop 6 signature.sorts in
    let predicates : built_in_predicates ++ drop built_in signature.predicates ≡ signature.predicates = ap (λ rows. rows ++ drop built_in signature.predicates) (sym valid.built_in_first.predicates) ∙ take-append-drop built_in signature.predicates in
    rw (sorts, predicates) refl

time_small : (signature : Signature) → IsSignature signature → is_range (range_of signature time_sort) ≡ true
time_small signature valid = by_row (slice_get signature.sorts time_sort) refl
  where
    by_row : (o : Option SortRow) → slice_get signature.sorts time_sort ≡ o → is_range (row_range o) ≡ true
    by_row None found = refl
    by_row (Some row) found = valid.small_ranges time_sort row found

-- the axioms DEC5 to DEC12 are sentences
pub dec_sentences : (signature : Signature) → IsSignature signature → All (IsSentence signature) dec_axioms
dec_sentences signature valid =
    let P : Signature → Type 0 = λ s. All (IsSentence s) dec_axioms in
    subst P (rebuilt_same signature valid)
    (whole_dec (range_of signature integer_sort) (range_of signature time_sort) (range_of signature 3) (drop 6 signature.sorts) signature.constants signature.events signature.fluents (drop built_in signature.predicates) signature.manual_release signature.time_diff
    (time_small signature valid))

-- and so are the release axioms
pub release_sentences : (signature : Signature) → IsSignature signature → All (IsSentence signature) (release_axioms signature)
release_sentences signature valid =
    let same = rebuilt_same signature valid in
    let again : IsSignature (rebuilt signature) = let Q : Signature → Type 0 = λ s. IsSignature s in subst Q (sym same) valid in
    let P : Signature → Type 0 = λ s. All (IsSentence s) (release_axioms s) in
    subst P same
    (whole_release (range_of signature integer_sort) (range_of signature time_sort) (range_of signature 3) (drop 6 signature.sorts) signature.constants signature.events signature.fluents (drop built_in signature.predicates) signature.manual_release signature.time_diff
    (time_small signature valid) (row_end (rebuilt signature) again)
    (λ k row found. all_by_places (λ s. s < length (rebuilt signature).sorts) row.sorts (λ i s at. again.known_sorts.fluents k row found i s at))
    (λ some. again.time_range (omega (arith, length-append signature.events signature.fluents))))
