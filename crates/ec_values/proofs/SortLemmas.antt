-- The values of a sort by its kind.
use Rattle.std.proofs.Common.{◌≡◌, ℕ, zero, suc, ◌+◌, ◌-◌, ◌<◌, ◌≤◌, nat_lt, Bool, true, false, if◌then◌else◌, ℤ, pos, negsuc, neg_ℤ, ◌+ℤ◌, ◌≤ℤ◌, ◌<ℤ◌, length, slice_get, unwrap_or, Option, Some, None, option_map, refl, sym, ap, ◌∙◌, arith}
use Rattle.std.proofs.lemmas.Int.{ints}
use Rattle.std.proofs.lemmas.Bool.Decides.{nat_tests}
use Rattle.std.proofs.lemmas.Option.{slice_get_within}
use Rattle.ec_logic.specs.Signature.{Signature, SortRow, Kind, plain, integer, event_kind, fluent_kind}
use Rattle.ec_logic.specs.Extent.{Extent, numbers, members, size_of, rank, in_range, natural, passing}
use Rattle.ec_logic.specs.Universe.{extent_at, extent_of_range, is_constant_in, universe_of}
use Rattle.ec_logic.specs.Turns.{IsValueOf, turns, at_turn}
use Rattle.ec_logic.proofs.InTurn.{turn_value}
use Rattle.std.specs.Prelude.{IfSome}
use Rattle.ec_logic.specs.Valid.{is_plain_sort, is_range}
use Rattle.ec_logic.proofs.Extents.{extent_of_sort, ground_events, ground_fluents}

-- ---- the extent of a sort by its kind

module _ (signature : Signature) (s : ℕ) where
  abbrev kind_at : Option Kind
  kind_at = option_map (λ (row : SortRow). row.kind) (slice_get signature.sorts s)

  -- a fact of the row from its kind
  by_row : (kind : Kind) (P : Type 0) → kind_at ≡ Some kind → ((row : SortRow) → slice_get signature.sorts s ≡ Some row → row.kind ≡ kind → P) → P
  by_row kind P h go = cases (slice_get signature.sorts s) refl h
    where
      cases : (o : Option SortRow) → slice_get signature.sorts s ≡ o → option_map (λ (row : SortRow). row.kind) o ≡ Some kind → P
      cases None i k = cc
      cases (Some row) i k = let is : row.kind ≡ kind = cc in go row i is

  pub plain_by_kind : kind_at ≡ Some plain → is_plain_sort signature s ≡ true
  plain_by_kind h = by_row plain (is_plain_sort signature s ≡ true) h (λ row i k. rw (i, k) refl)

  plain_extent : kind_at ≡ Some plain → extent_at (universe_of signature) s ≡ members (length signature.constants) (is_constant_in signature s)
  plain_extent h = by_row plain (extent_at (universe_of signature) s ≡ members (length signature.constants) (is_constant_in signature s)) h
      (λ row i k. extent_of_sort signature s (slice_get_within signature.sorts s row i) ∙ (rw (i, k) refl))

  integer_extent : (range : Option (ℤ × ℤ)) → kind_at ≡ Some integer → option_map (λ (row : SortRow). row.range) (slice_get signature.sorts s) ≡ Some range → extent_at (universe_of signature) s ≡ extent_of_range range
  integer_extent range h g = by_row integer (extent_at (universe_of signature) s ≡ extent_of_range range) h
      (λ row i k. extent_of_sort signature s (slice_get_within signature.sorts s row i) ∙ (rw (i, k) (ap extent_of_range (same row (rw i at g)))))
    where
      same : (row : SortRow) → option_map (λ (row : SortRow). row.range) (Some row) ≡ Some range → row.range ≡ range
      same row g = cc

  event_extent : kind_at ≡ Some event_kind → extent_at (universe_of signature) s ≡ members (ground_events signature) (λ k. true)
  event_extent h = by_row event_kind (extent_at (universe_of signature) s ≡ members (ground_events signature) (λ k. true)) h
      (λ row i k. extent_of_sort signature s (slice_get_within signature.sorts s row i) ∙ (rw (i, k) refl))

  fluent_extent : kind_at ≡ Some fluent_kind → extent_at (universe_of signature) s ≡ members (ground_fluents signature) (λ k. true)
  fluent_extent h = by_row fluent_kind (extent_at (universe_of signature) s ≡ members (ground_fluents signature) (λ k. true)) h
      (λ row i k. extent_of_sort signature s (slice_get_within signature.sorts s row i) ∙ (rw (i, k) refl))

passing_all : (from n : ℕ) → passing (λ k. true) from n ≡ n
passing_all from zero = refl
passing_all from (suc n) = ap suc (passing_all (suc from) n)

sized : (count n : ℕ) → n ≡ size_of (members count (λ k. true)) → n ≡ count
sized count n h = h ∙ passing_all 0 count

-- ---- turns

module _ (signature : Signature) (s : ℕ) where
  pub turns_plain : (n : ℕ) → kind_at signature s ≡ Some plain → n ≡ length signature.constants → n ≡ turns (extent_at (universe_of signature) s)
  turns_plain n h e = rw (plain_extent signature s h) e

  pub turns_integer : (n : ℕ) → kind_at signature s ≡ Some integer → n ≡ size_of (extent_at (universe_of signature) s) → n ≡ turns (extent_at (universe_of signature) s)
  turns_integer n h e = by_row signature s integer (n ≡ turns (extent_at (universe_of signature) s)) h
      (λ row i k.
      let is = integer_extent signature s row.range h (rw i refl) in
      let there : n ≡ size_of (extent_of_range row.range) = rw is at e in
      rw is (by_range row.range there))
    where
      by_range : (range : Option (ℤ × ℤ)) → n ≡ size_of (extent_of_range range) → n ≡ turns (extent_of_range range)
      by_range None e = e
      by_range (Some (a, b)) e = e

  pub turns_event : (n : ℕ) → kind_at signature s ≡ Some event_kind → n ≡ size_of (extent_at (universe_of signature) s) → n ≡ turns (extent_at (universe_of signature) s)
  turns_event n h e = let is = event_extent signature s h in rw is (sized (ground_events signature) n (rw is at e))

  pub turns_fluent : (n : ℕ) → kind_at signature s ≡ Some fluent_kind → n ≡ size_of (extent_at (universe_of signature) s) → n ≡ turns (extent_at (universe_of signature) s)
  turns_fluent n h e = let is = fluent_extent signature s h in rw is (sized (ground_fluents signature) n (rw is at e))

  -- ---- what is asked of an extent, from its kind

  pub turn_plain : (k : ℕ) (r : Option ℤ) → kind_at signature s ≡ Some plain → r ≡ at_turn (members (length signature.constants) (is_constant_in signature s)) k → r ≡ at_turn (extent_at (universe_of signature) s) k
  turn_plain k r h e = rw (plain_extent signature s h) e

  pub turn_plain_below : (k : ℕ) → kind_at signature s ≡ Some plain → k < turns (extent_at (universe_of signature) s) → k < length signature.constants
  turn_plain_below k h e = rw (plain_extent signature s h) at e

  pub turn_integer : (k : ℕ) (range : Option (ℤ × ℤ)) (r : Option ℤ) → kind_at signature s ≡ Some integer → option_map (λ (row : SortRow). row.range) (slice_get signature.sorts s) ≡ Some range → r ≡ at_turn (extent_of_range range) k → r ≡ at_turn (extent_at (universe_of signature) s) k
  turn_integer k range r h g e = rw (integer_extent signature s range h g) e

  pub turn_integer_below : (k : ℕ) (range : Option (ℤ × ℤ)) → kind_at signature s ≡ Some integer → option_map (λ (row : SortRow). row.range) (slice_get signature.sorts s) ≡ Some range → k < turns (extent_at (universe_of signature) s) → k < turns (extent_of_range range)
  turn_integer_below k range h g e = rw (integer_extent signature s range h g) at e

  pub turn_event : (k : ℕ) → kind_at signature s ≡ Some event_kind → Some (pos k) ≡ at_turn (extent_at (universe_of signature) s) k
  turn_event k h = rw (event_extent signature s h) refl

  pub turn_fluent : (k : ℕ) → kind_at signature s ≡ Some fluent_kind → Some (pos k) ≡ at_turn (extent_at (universe_of signature) s) k
  turn_fluent k h = rw (fluent_extent signature s h) refl

  pub in_range_plain : (v : ℤ) → kind_at signature s ≡ Some plain → true ≡ in_range (extent_at (universe_of signature) s) v
  in_range_plain v h = rw (plain_extent signature s h) refl

  pub in_range_integer : (range : Option (ℤ × ℤ)) (v : ℤ) (r : Bool) → kind_at signature s ≡ Some integer → option_map (λ (row : SortRow). row.range) (slice_get signature.sorts s) ≡ Some range → r ≡ in_range (extent_of_range range) v → r ≡ in_range (extent_at (universe_of signature) s) v
  in_range_integer range v r h g e = rw (integer_extent signature s range h g) e

  pub in_range_event : (v : ℤ) → kind_at signature s ≡ Some event_kind → true ≡ in_range (extent_at (universe_of signature) s) v
  in_range_event v h = rw (event_extent signature s h) refl

  pub in_range_fluent : (v : ℤ) → kind_at signature s ≡ Some fluent_kind → true ≡ in_range (extent_at (universe_of signature) s) v
  in_range_fluent v h = rw (fluent_extent signature s h) refl

  pub place_plain : (v : ℤ) (r : Option ℕ) → kind_at signature s ≡ Some plain → r ≡ rank (members (length signature.constants) (is_constant_in signature s)) v → r ≡ rank (extent_at (universe_of signature) s) v
  place_plain v r h e = rw (plain_extent signature s h) e

  pub place_integer : (range : Option (ℤ × ℤ)) (v : ℤ) (r : Option ℕ) → kind_at signature s ≡ Some integer → option_map (λ (row : SortRow). row.range) (slice_get signature.sorts s) ≡ Some range → r ≡ rank (extent_of_range range) v → r ≡ rank (extent_at (universe_of signature) s) v
  place_integer range v r h g e = rw (integer_extent signature s range h g) e

  pub place_event : (n : ℕ) (v : ℤ) (r : Option ℕ) → kind_at signature s ≡ Some event_kind → n ≡ size_of (extent_at (universe_of signature) s) → r ≡ rank (members n (λ k. true)) v → r ≡ rank (extent_at (universe_of signature) s) v
  place_event n v r h m e = let is = event_extent signature s h in let same = sized (ground_events signature) n (rw is at m) in rw is (rw same at e)

  pub place_fluent : (n : ℕ) (v : ℤ) (r : Option ℕ) → kind_at signature s ≡ Some fluent_kind → n ≡ size_of (extent_at (universe_of signature) s) → r ≡ rank (members n (λ k. true)) v → r ≡ rank (extent_at (universe_of signature) s) v
  place_fluent n v r h m e = let is = fluent_extent signature s h in let same = sized (ground_fluents signature) n (rw is at m) in rw is (rw same at e)

-- ---- whole numbers of a range

size_of_ends : (a b : ℤ) (P : ℕ → Type 0) → is_range (Some (a, b)) ≡ true → ((n : ℕ) → b +ℤ neg_ℤ a +ℤ pos 1 ≡ pos n → P n) → P (unwrap_or (natural (b +ℤ neg_ℤ a +ℤ pos 1)) 0)
size_of_ends a b P h go = cases (b +ℤ neg_ℤ a +ℤ pos 1) refl
  where
    cases : (d : ℤ) → b +ℤ neg_ℤ a +ℤ pos 1 ≡ d → P (unwrap_or (natural d) 0)
    cases (pos n) e = go n e
    cases (negsuc n) e = absurd (grind (arith, ints, nat_tests))

pub number_turn : (a b : ℤ) (k : ℕ) → Some (a +ℤ pos k) ≡ at_turn (extent_of_range (Some (a, b))) k
number_turn a b k = refl

pub no_number_turn : (k : ℕ) → k < turns (extent_of_range None) → ⊥
no_number_turn k h = omega arith

pub between_ends : (a b v : ℤ) → is_range (Some (a, b)) ≡ true → a ≤ℤ v → v ≤ℤ b → true ≡ in_range (extent_of_range (Some (a, b))) v
between_ends a b v h l u = let P : ℕ → Type 0 = λ n. true ≡ in_range (numbers a n) v in size_of_ends a b P h (λ n e. grind (arith, ints, nat_tests))

pub below_least : (a b v : ℤ) → is_range (Some (a, b)) ≡ true → v <ℤ a → false ≡ in_range (extent_of_range (Some (a, b))) v
below_least a b v h l = let P : ℕ → Type 0 = λ n. false ≡ in_range (numbers a n) v in size_of_ends a b P h (λ n e. grind (arith, ints, nat_tests))

pub above_greatest : (a b v : ℤ) → is_range (Some (a, b)) ≡ true → b <ℤ v → false ≡ in_range (extent_of_range (Some (a, b))) v
above_greatest a b v h l = let P : ℕ → Type 0 = λ n. false ≡ in_range (numbers a n) v in size_of_ends a b P h (λ n e. grind (arith, ints, nat_tests))

pub no_range : (v : ℤ) → false ≡ in_range (extent_of_range None) v
no_range v = grind (arith, ints, nat_tests)

pub place_between : (a b v : ℤ) (n : ℕ) → is_range (Some (a, b)) ≡ true → a ≤ℤ v → v ≤ℤ b → pos n ≡ v +ℤ neg_ℤ a → Some n ≡ rank (extent_of_range (Some (a, b))) v
place_between a b v n h l u e =
    let inside : in_range (extent_of_range (Some (a, b))) v ≡ true = sym (between_ends a b v h l u) in
    rw (inside, ← e) refl

pub no_place_below : (a b v : ℤ) → is_range (Some (a, b)) ≡ true → v <ℤ a → None ≡ rank (extent_of_range (Some (a, b))) v
no_place_below a b v h l =
    let outside : in_range (extent_of_range (Some (a, b))) v ≡ false = sym (below_least a b v h l) in
    rw outside refl

pub no_place_above : (a b v : ℤ) → is_range (Some (a, b)) ≡ true → b <ℤ v → None ≡ rank (extent_of_range (Some (a, b))) v
no_place_above a b v h l =
    let outside : in_range (extent_of_range (Some (a, b))) v ≡ false = sym (above_greatest a b v h l) in
    rw outside refl

pub no_place : (v : ℤ) → None ≡ rank (extent_of_range None) v
no_place v = let outside : in_range (extent_of_range None) v ≡ false = sym (no_range v) in rw outside refl

-- ---- constants of a sort, and things that are all of a sort

module _ (test : ℕ → Bool) where
  pub passing_yes : (i n : ℕ) → i < n → test i ≡ true → passing test i (n - i) ≡ 1 + passing test (i + 1) (n - (i + 1))
  passing_yes i n l h = let f : i + 1 ≡ suc i = omega arith in let e : n - i ≡ suc (n - suc i) = omega arith in rw (f, e, h) (omega arith)

  pub passing_no : (i n : ℕ) → i < n → test i ≡ false → passing test i (n - i) ≡ passing test (i + 1) (n - (i + 1))
  passing_no i n l h = let f : i + 1 ≡ suc i = omega arith in let e : n - i ≡ suc (n - suc i) = omega arith in rw (f, e, h) refl

  pub passing_ends : (i n : ℕ) → n ≤ i → passing test i (n - i) ≡ 0
  passing_ends i n l = let e : n - i ≡ 0 = omega arith in rw e refl

  passing_at_most : (from n : ℕ) → passing test from n ≤ n
  passing_at_most from zero = omega arith
  passing_at_most from (suc n) = by_test (test from) (passing_at_most (suc from) n)
    where
      by_test : (b : Bool) → passing test (suc from) n ≤ n → (if b then suc (passing test (suc from) n) else passing test (suc from) n) ≤ suc n
      by_test true h = omega (arith, h)
      by_test false h = omega (arith, h)

  pub passing_few : (n : ℕ) → passing test 0 n ≤ n
  passing_few n = passing_at_most 0 n

  pub member_place : (count n : ℕ) (v : ℤ) → v ≡ pos n → n < count → test n ≡ true → Some (passing test 0 n) ≡ rank (members count test) v
  member_place count n v e l h = let low : nat_lt n count ≡ true = grind (arith, nat_tests) in rw (e, low, h) refl

  pub no_member_place : (count n : ℕ) (v : ℤ) → v ≡ pos n → n < count → test n ≡ false → None ≡ rank (members count test) v
  no_member_place count n v e l h = let low : nat_lt n count ≡ true = grind (arith, nat_tests) in rw (e, low, h) refl

  pub negative_place : (count : ℕ) (v : ℤ) → v <ℤ pos 0 → None ≡ rank (members count test) v
  negative_place count (pos n) l = absurd (omega (arith, ints, l))
  negative_place count (negsuc n) l = refl

  pub past_place : (count : ℕ) (v : ℤ) → pos count ≤ℤ v → None ≡ rank (members count test) v
  past_place count (pos n) l = let high : nat_lt n count ≡ false = grind (arith, ints, nat_tests) in rw high refl
  past_place count (negsuc n) l = refl

pub counted_place : (count n : ℕ) (v : ℤ) → v ≡ pos n → n < count → Some n ≡ rank (members count (λ k. true)) v
counted_place count n v e l = let low : nat_lt n count ≡ true = grind (arith, nat_tests) in rw (e, low, passing_all 0 n) refl

-- what a binder has at a turn is a value of its sort
pub turn_values : (extent : Extent) (k : ℕ) (o : Option ℤ) → k < turns extent → o ≡ at_turn extent k → IfSome o (IsValueOf extent)
turn_values extent k None low e = tt
turn_values extent k (Some v) low e = turn_value extent k v low (sym e)
