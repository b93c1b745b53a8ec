-- Times, and the atoms of fluents and events at them.
use Rattle.std.proofs.Common.{◌≡◌, ℕ, zero, suc, ◌<◌, ◌^◌, nat_lt, min, Bool, true, false, ◌&&◌, is_some, if◌then◌else◌, ℤ, pos, negsuc, ◌+ℤ◌, neg_ℤ, ◌≤ℤ◌, int_le, int_lt, List, [], ◌∷◌, ◌++◌, slice_get, unwrap_or, Option, Some, None, option_map, refl, sym, ap, ◌∙◌, arith, append_assoc, codes}
use Rattle.std.specs.Ordering.{int_eq}
use Rattle.std.proofs.lemmas.Bool.Decides.{nat_tests}
use Rattle.std.proofs.lemmas.Int.{ints}
use Rattle.ec_logic.specs.Axiom.{first_time}
use Rattle.ec_logic.specs.Extent.{numbers, members, rank, size_of, domain_of, natural, passing}
use Rattle.ec_logic.specs.Narrative.{before_time, is_noninertial, integer_text}
use Rattle.ec_logic.specs.Signature.{Signature, SortRow, SymbolRow, time_sort, event_sort, fluent_sort}
use Rattle.ec_logic.specs.Universe.{Universe, universe_of, extent_at, extent_of_range, domain, row_of, argument_sorts, symbol_at, tuple_rank}
use Rattle.ec_logic.specs.Valid.{IsSignature, is_range, range_of, range_limit}
use Rattle.ec_logic.proofs.Extents.{ground_events, ground_fluents}
use Rattle.ec_logic.proofs.FewAtoms.{event_extent, fluent_extent}
use Rattle.ec_narr.proofs.BuiltInLemmas.{built_in_row, time_extent}
use Rattle.ec_logic.proofs.Numbering.{rank-value_at}
use Rattle.ec_logic.proofs.Tests.{and_parts}
use Rattle.ec_theory.specs.declared.value.Value.{Value}
use Rattle.ec_atom.specs.declared.ground.GroundTerm.{GroundTerm}
use Rattle.ec_atom.specs.Blocks.{Application, application, application_at}
use Rattle.ec_atom.specs.Ground.{are_within}
use Rattle.ec_narr.specs.Parts.{is_time, at_time}

passing_all : (from n : ℕ) → passing (λ k. true) from n ≡ n
passing_all from zero = refl
passing_all from (suc n) = ap suc (passing_all (suc from) n)

-- ---- an atom of a fluent or an event at a time

pair_within : (u : Universe) (a b : ℕ) (v w : ℤ) → is_some (rank (extent_at u a) v) ≡ true → is_some (rank (extent_at u b) w) ≡ true → is_some (tuple_rank u (a ∷ b ∷ []) (v ∷ w ∷ [])) ≡ true
pair_within u a b v w h k = cases (rank (extent_at u a) v) (rank (extent_at u b) w) refl refl h k
  where
    cases : (x y : Option ℕ) → rank (extent_at u a) v ≡ x → rank (extent_at u b) w ≡ y → is_some x ≡ true → is_some y ≡ true → is_some (tuple_rank u (a ∷ b ∷ []) (v ∷ w ∷ [])) ≡ true
    cases None y d e h k = cc
    cases (Some i) None d e h k = cc
    cases (Some i) (Some j) d e h k = rw (d, e) refl

place_ranked : (count n : ℕ) → n < count → is_some (rank (members count (λ k. true)) (pos n)) ≡ true
place_ranked count n h = let low : nat_lt n count ≡ true = grind (arith, nat_tests) in rw low refl

module _ (signature : Signature) (valid : IsSignature signature) where
  abbrev universe : Universe
  universe = universe_of signature

  pub fluent_ranked : (n : ℕ) → n < size_of (extent_at universe fluent_sort) → is_some (rank (extent_at universe fluent_sort) (pos n)) ≡ true
  fluent_ranked n h =
      let extent = fluent_extent signature valid in
      let size = ap size_of extent ∙ passing_all 0 (ground_fluents signature) in
      ap (λ e. is_some (rank e (pos n))) extent ∙ place_ranked (ground_fluents signature) n (omega (arith, h, size))

  pub event_ranked : (n : ℕ) → n < size_of (extent_at universe event_sort) → is_some (rank (extent_at universe event_sort) (pos n)) ≡ true
  event_ranked n h =
      let extent = event_extent signature valid in
      let size = ap size_of extent ∙ passing_all 0 (ground_events signature) in
      ap (λ e. is_some (rank e (pos n))) extent ∙ place_ranked (ground_events signature) n (omega (arith, h, size))

  pub fluent_within : (p n : ℕ) (t : ℤ) (v w : Value) → p < 2 → n < size_of (extent_at universe fluent_sort) → is_time universe t ≡ true → v.0 ≡ pos n → w.0 ≡ t → are_within universe (row_of universe.predicates p) (v ∷ w ∷ []) ≡ true
  fluent_within p n t v w low h time e f =
      let pair = pair_within universe fluent_sort time_sort (pos n) t (fluent_ranked n h) time in
      by_predicate p low (rw (e, f) pair)
    where
      by_predicate : (p : ℕ) → p < 2 → is_some (tuple_rank universe (fluent_sort ∷ time_sort ∷ []) (v.0 ∷ w.0 ∷ [])) ≡ true → are_within universe (row_of universe.predicates p) (v ∷ w ∷ []) ≡ true
      by_predicate zero low h = ap (λ ss. are_within universe ss (v ∷ w ∷ [])) (built_in_row signature valid 0 (omega arith)) ∙ h
      by_predicate (suc zero) low h = ap (λ ss. are_within universe ss (v ∷ w ∷ [])) (built_in_row signature valid 1 (omega arith)) ∙ h
      by_predicate (suc (suc p)) low h = absurd (omega (arith, low))

  pub event_within : (n : ℕ) (t : ℤ) (v w : Value) → n < size_of (extent_at universe event_sort) → is_time universe t ≡ true → v.0 ≡ pos n → w.0 ≡ t → are_within universe (row_of universe.predicates 2) (v ∷ w ∷ []) ≡ true
  event_within n t v w h time e f =
      ap (λ ss. are_within universe ss (v ∷ w ∷ [])) (built_in_row signature valid 2 (omega arith)) ∙ (let pair = pair_within universe event_sort time_sort (pos n) t (event_ranked n h) time in rw (e, f) pair)

  -- ---- the times

  range_there : is_range (range_of signature time_sort) ≡ true
  range_there = cases (slice_get signature.sorts time_sort) refl
    where
      cases : (o : Option SortRow) → slice_get signature.sorts time_sort ≡ o → is_range (range_of signature time_sort) ≡ true
      cases None e = rw e refl
      cases (Some row) e = rw e (valid.small_ranges time_sort row e)

  time_low_in : (r : Option (ℤ × ℤ)) (t : ℤ) → is_range r ≡ true → is_some (rank (extent_of_range r) t) ≡ true → neg_ℤ (pos (2 ^ 62)) ≤ℤ t
  time_low_in None t h k = absurd (none (int_le (pos 0) t && int_lt t (pos 0)) refl k)
    where
      none : (b : Bool) → (int_le (pos 0) t && int_lt t (pos 0)) ≡ b → is_some (if b then natural (t +ℤ neg_ℤ (pos 0)) else None) ≡ true → ⊥
      none true e k = let both = and_parts (int_le (pos 0) t) (int_lt t (pos 0)) e in omega (arith, ints, both.0, both.1)
      none false e k = cc
  time_low_in (Some (a, b)) t h k = by_test (int_le a t && int_lt t (a +ℤ pos (unwrap_or (natural (b +ℤ neg_ℤ a +ℤ pos 1)) 0))) refl k
    where
      low : neg_ℤ (pos range_limit) ≤ℤ a
      low = let both = and_parts (int_le (neg_ℤ (pos range_limit)) a) (int_le a b) (and_parts (int_le (neg_ℤ (pos range_limit)) a && int_le a b) (int_le b (pos range_limit)) h).0 in omega (arith, ints, both.0)

      by_test : (c : Bool) → (int_le a t && int_lt t (a +ℤ pos (unwrap_or (natural (b +ℤ neg_ℤ a +ℤ pos 1)) 0))) ≡ c → is_some (if c then natural (t +ℤ neg_ℤ a) else None) ≡ true → neg_ℤ (pos (2 ^ 62)) ≤ℤ t
      by_test true e k =
          let both = and_parts (int_le a t) (int_lt t (a +ℤ pos (unwrap_or (natural (b +ℤ neg_ℤ a +ℤ pos 1)) 0))) e in
          let l = low in
          let above : a ≤ℤ t = omega (arith, ints, both.0) in
          omega (arith, ints, l, above)
      by_test false e k = cc

  pub time_low : (t : ℤ) → is_time universe t ≡ true → neg_ℤ (pos (2 ^ 62)) ≤ℤ t
  time_low t h = time_low_in (range_of signature time_sort) t range_there (ap (λ e. is_some (rank e t)) (sym (time_extent signature valid)) ∙ h)

-- ---- times one after the other

module _ (u : Universe) (first : ℤ) (count : ℕ) (extent : extent_at u time_sort ≡ numbers first count) where
  step_time : (k : ℕ) → k < count → is_time u (first +ℤ pos k) ≡ true
  step_time k h = rw (extent, rank-value_at (numbers first count) k h) refl

  pub time_at_step : (k : ℕ) (t : ℤ) → k < count → t ≡ first +ℤ pos k → is_time u t ≡ true
  time_at_step k t h e = rw e (step_time k h)

  pub time_before_step : (k : ℕ) (t : ℤ) → k < count → t ≡ first +ℤ pos k → int_eq t first ≡ false → is_time u (before_time t) ≡ true
  time_before_step zero t h e apart = absurd (grind (arith, ints, e, apart))
  time_before_step (suc k) t h e apart = let back : before_time t ≡ first +ℤ pos k = omega (arith, ints, e) in rw back (step_time k (omega (arith, h)))

-- what the range of times says
module _ (signature : Signature) (valid : IsSignature signature) (r : Option (ℤ × ℤ)) (h : option_map (λ (row : SortRow). row.range) (slice_get signature.sorts time_sort) ≡ Some r) where
  range_is : range_of signature time_sort ≡ r
  range_is = cases (slice_get signature.sorts time_sort) refl h
    where
      cases : (o : Option SortRow) → slice_get signature.sorts time_sort ≡ o → option_map (λ (row : SortRow). row.range) o ≡ Some r → range_of signature time_sort ≡ r
      cases None e i = cc
      cases (Some row) e i = let same : row.range ≡ r = cc in rw e same

  extent_is : extent_at (universe_of signature) time_sort ≡ extent_of_range r
  extent_is = time_extent signature valid ∙ ap extent_of_range range_is

  pub no_times : r ≡ None → domain (universe_of signature) time_sort ≡ []
  no_times e = ap domain_of (extent_is ∙ ap extent_of_range e)

  module _ (a b : ℤ) (is : r ≡ Some (a, b)) (small : is_range r ≡ true) where
    pub first_is : a ≡ first_time signature
    first_is = cases (slice_get signature.sorts time_sort) refl h
      where
        cases : (o : Option SortRow) → slice_get signature.sorts time_sort ≡ o → option_map (λ (row : SortRow). row.range) o ≡ Some r → a ≡ first_time signature
        cases None e i = cc
        cases (Some row) e i = let same : row.range ≡ Some (a, b) = cc in rw (e, same) refl

    ends : (neg_ℤ (pos range_limit) ≤ℤ a) × (a ≤ℤ b) × (b ≤ℤ pos range_limit)
    ends =
        let t : is_range (Some (a, b)) ≡ true = ap is_range (sym is) ∙ small in
        let x = and_parts (int_le (neg_ℤ (pos range_limit)) a && int_le a b) (int_le b (pos range_limit)) t in
        let y = and_parts (int_le (neg_ℤ (pos range_limit)) a) (int_le a b) x.0 in
        (omega (arith, ints, y.0), omega (arith, ints, y.1), omega (arith, ints, x.1))

    pub range_low : neg_ℤ (pos range_limit) ≤ℤ a
    range_low = ends.0

    pub range_high : a ≤ℤ pos range_limit
    range_high = let l = ends.1 in let g = ends.2 in omega (arith, ints, l, g)

    size : ℕ
    size = unwrap_or (natural (b +ℤ neg_ℤ a +ℤ pos 1)) 0

    size_few : unwrap_or (natural (b +ℤ neg_ℤ a +ℤ pos 1)) 0 < 2 ^ 32
    size_few = by_size (b +ℤ neg_ℤ a +ℤ pos 1) refl
      where
        by_size : (z : ℤ) → b +ℤ neg_ℤ a +ℤ pos 1 ≡ z → unwrap_or (natural z) 0 < 2 ^ 32
        by_size (pos n) e = let l = ends.0 in let g = ends.2 in omega (arith, ints, e, l, g)
        by_size (negsuc n) e = omega arith

    whole : extent_at (universe_of signature) time_sort ≡ numbers a (unwrap_or (natural (b +ℤ neg_ℤ a +ℤ pos 1)) 0)
    whole = extent_is ∙ ap extent_of_range is

    count_is : (count : ℕ) → count ≡ min (size_of (extent_at (universe_of signature) time_sort)) (2 ^ 62) → count ≡ unwrap_or (natural (b +ℤ neg_ℤ a +ℤ pos 1)) 0
    count_is count e = let s = ap size_of whole in let f = size_few in omega (arith, e, s, f)

    pub times_few : (count : ℕ) → count ≡ min (size_of (extent_at (universe_of signature) time_sort)) (2 ^ 62) → count < 2 ^ 32
    times_few count e = let c = count_is count e in let f = size_few in omega (arith, c, f)

    pub times_extent : (count : ℕ) → count ≡ min (size_of (extent_at (universe_of signature) time_sort)) (2 ^ 62) → extent_at (universe_of signature) time_sort ≡ numbers a count
    times_extent count e = whole ∙ ap (numbers a) (sym (count_is count e))

-- ---- noninertial fluents

pub noninertial_is : (signature : Signature) (place : ℕ) (term : GroundTerm) (b : Bool) → application term ≡ application_at (universe_of signature) (argument_sorts signature.fluents) place
    → option_map (λ (row : SymbolRow). row.noninertial) (slice_get signature.fluents term.symbol) ≡ Some b → b ≡ is_noninertial signature (pos place)
noninertial_is signature place term b is h = cases (slice_get signature.fluents (symbol_at (universe_of signature) (argument_sorts signature.fluents) place).0) refl (ap (λ s. option_map (λ (row : SymbolRow). row.noninertial) (slice_get signature.fluents s)) (sym symbol) ∙ h)
  where
    symbol : term.symbol ≡ (symbol_at (universe_of signature) (argument_sorts signature.fluents) place).0
    symbol = let of : Application → ℕ = λ a. a.symbol in ap of is

    cases : (o : Option SymbolRow) → slice_get signature.fluents (symbol_at (universe_of signature) (argument_sorts signature.fluents) place).0 ≡ o → option_map (λ (row : SymbolRow). row.noninertial) o ≡ Some b → b ≡ is_noninertial signature (pos place)
    cases None e i = cc
    cases (Some row) e i = let same : row.noninertial ≡ b = cc in rw e (sym same)

-- ---- lines joined

pub joined : (o a b : List ℕ) (t : ℤ) → o ++ a ++ b ++ at_time t ≡ o ++ (a ++ b ++ codes ", " ++ integer_text t ++ codes ").")
joined o a b t = ends (codes ", ") (integer_text t) (codes ").")
  where
    ends : (c d e : List ℕ) → o ++ a ++ b ++ (c ++ d ++ e) ≡ o ++ (a ++ b ++ c ++ d ++ e)
    ends c d e =
        ap (λ x. x ++ (c ++ d ++ e)) (append_assoc o a b)
        ∙ (append_assoc o (a ++ b) (c ++ d ++ e)
        ∙ ap (λ x. o ++ x) (sym (append_assoc (a ++ b) (c ++ d) e) ∙ ap (λ x. x ++ e) (sym (append_assoc (a ++ b) c d))))
