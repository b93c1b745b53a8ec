-- A value of a sort is one of each sort above it.
use Rattle.std.proofs.Common.{◌≡◌, ◌∙◌, ℕ, zero, suc, ◌==◌, ◌<◌, nat_lt, Bool, true, false, ◌&&◌, ◌||◌, if◌then◌else◌, List, [], ◌∷◌, ◌++◌, take-append-drop, drop, length, ℤ, pos, negsuc, Option, Some, None, slice_get, refl, sym, ap, subst, arith}
use Rattle.std.proofs.lemmas.Bool.Decides.{nat_tests}
use Rattle.std.proofs.lemmas.Option.{slice_get_within}
use Rattle.ec_logic.specs.Signature.{Signature, Kind, plain, integer, event_kind, fluent_kind, SortRow, ConstantRow, parent_of, has_parent, descends, is_within, integer_sort, time_sort, event_sort, fluent_sort}
use Rattle.ec_logic.specs.BuiltIn.{built_in_sorts}
use Rattle.ec_logic.specs.Extent.{members, passing}
use Rattle.ec_logic.specs.Universe.{universe_of, extent_at, is_constant_in}
use Rattle.ec_logic.specs.Turns.{IsValueOf}
use Rattle.ec_logic.specs.Valid.{IsSignature, range_of, row_passes, is_plain_sort, is_integer_sort, kind_is_plain, kind_is_integer, kind_is_event, kind_is_fluent}
use Rattle.ec_logic.proofs.Extents.{extent_of_sort}
use Rattle.ec_logic.proofs.Tests.{and_parts, same_number, or_cases, or_left, or_right, test_cases}
use Rattle.ec_supported.proofs.Ancestors.{goes_on, within_within}

known_some : {A : Type 0} (xs : List A) (k : ℕ) → k < length xs → slice_get xs k ≡ None → ⊥
known_some [] k l e = omega (arith, l)
known_some (x ∷ xs) zero l e = cc
known_some (x ∷ xs) (suc k) l e = known_some xs k (omega (arith, l)) e

-- what a member is
pub record IsMember (count : ℕ) (test : ℕ → Bool) (v : ℤ) : Type 0 where
  pub number : ℕ
  pub is : v ≡ pos number
  pub below : number < count
  pub passes : test number ≡ true

pub member_of : (count : ℕ) (test : ℕ → Bool) (v : ℤ) → IsValueOf (members count test) v → IsMember count test v
member_of count test (negsuc n) h = let e = h.1 in cc
member_of count test (pos n) h = by_test (nat_lt n count && test n) refl h.1
  where
    by_test : (b : Bool) → (nat_lt n count && test n) ≡ b → (if b then Some (passing test 0 n) else None) ≡ Some h.0 → IsMember count test (pos n)
    by_test false e f = cc
    by_test true e f = let both = and_parts (nat_lt n count) (test n) e in record { number = n; is = refl; below = grind (arith, nat_tests); passes = both.1 }

pub member_is : (count : ℕ) (test : ℕ → Bool) (n : ℕ) → n < count → test n ≡ true → IsValueOf (members count test) (pos n)
member_is count test n l t = let e : nat_lt n count ≡ true = grind (arith, nat_tests) in (passing test 0 n, rw (e, t) refl)

is_plain : (kind : Kind) → kind_is_plain kind ≡ true → kind ≡ plain
is_plain plain h = refl
is_plain integer h = cc
is_plain event_kind h = cc
is_plain fluent_kind h = cc

module _ (signature : Signature) (valid : IsSignature signature) where
  row_at : (s : ℕ) (test : SortRow → Bool) (P : Type 0) → row_passes test (slice_get signature.sorts s) ≡ true → ((row : SortRow) → slice_get signature.sorts s ≡ Some row → test row ≡ true → P) → P
  row_at s test P h f = by_row (slice_get signature.sorts s) refl h
    where
      by_row : (o : Option SortRow) → slice_get signature.sorts s ≡ o → row_passes test o ≡ true → P
      by_row None e g = cc
      by_row (Some row) e g = f row e g

  parent_row : (r p : ℕ) (P : Type 0) → parent_of signature r ≡ Some p → ((row : SortRow) → slice_get signature.sorts r ≡ Some row → row.parent ≡ Some p → P) → P
  parent_row r p P h f = by_row (slice_get signature.sorts r) refl h
    where
      by_row : (o : Option SortRow) → slice_get signature.sorts r ≡ o → parent_of signature r ≡ Some p → P
      by_row None e g = let none : None ≡ Some p = rw e at g in cc
      by_row (Some row) e g = f row e (rw e at g)

  -- a sort that has another as a parent is no event sort, nor is its parent
  parent_unreified : (r p : ℕ) → parent_of signature r ≡ Some p → ((p == event_sort) || (p == fluent_sort)) ≡ false
  parent_unreified r p h = parent_row r p _ h (λ row e f. ap (has_parent (λ q. (q == event_sort) || (q == fluent_sort))) (sym f) ∙ valid.reified_no_parent r row e)

  -- only itself is within a reified sort
  within_reified : (k r s : ℕ) → ((s == event_sort) || (s == fluent_sort)) ≡ true → descends signature k r s ≡ true → r ≡ s
  within_reified zero r s e h = same_number r s h
  within_reified (suc k) r s e h =
      test_cases (r ≡ s) (r == s) (λ t. same_number r s t)
      (λ t.
      let on = goes_on signature k r s t h in
      let up = within_reified k on.parent s e on.above in
      let none = parent_unreified r on.parent on.is in
      let some : ((on.parent == event_sort) || (on.parent == fluent_sort)) ≡ true = rw up e in
      cc)

  -- ---- what stands above a sort

  sorts_begin : signature.sorts ≡ built_in_sorts (range_of signature integer_sort) (range_of signature time_sort) (range_of signature 3) ++ drop 6 signature.sorts
  sorts_begin = sym (take-append-drop 6 signature.sorts) ∙ ap (λ rows. rows ++ drop 6 signature.sorts) valid.built_in_first.sorts

  integer_on_top : parent_of signature integer_sort ≡ None
  integer_on_top = rw sorts_begin refl

  event_on_top : parent_of signature event_sort ≡ None
  event_on_top = rw sorts_begin refl

  fluent_on_top : parent_of signature fluent_sort ≡ None
  fluent_on_top = rw sorts_begin refl

  -- nothing but itself stands above a sort without a parent
  top_alone : (k r s : ℕ) → parent_of signature r ≡ None → descends signature k r s ≡ true → r ≡ s
  top_alone zero r s e h = same_number r s h
  top_alone (suc k) r s e h = test_cases (r ≡ s) (r == s) (λ t. same_number r s t) (λ t. let on = goes_on signature k r s t h in let is = on.is in cc)

  known_up : (k r s : ℕ) → r < length signature.sorts → descends signature k r s ≡ true → s < length signature.sorts
  known_up zero r s l h = let same : r ≡ s = same_number r s h in rw (← same) l
  known_up (suc k) r s l h =
      test_cases (s < length signature.sorts) (r == s) (λ t. let same : r ≡ s = same_number r s t in rw (← same) l)
      (λ t. let on = goes_on signature k r s t h in known_up k on.parent s (valid.known_sorts.parents r on.parent on.is) on.above)

  integer_parent : (r p : ℕ) → is_integer_sort signature r ≡ true → parent_of signature r ≡ Some p → is_integer_sort signature p ≡ true
  integer_parent r p i h =
      parent_row r p _ h
      (λ row e f.
      let kind : kind_is_integer row.kind ≡ true = ap (row_passes (λ (x : SortRow). kind_is_integer x.kind)) (sym e) ∙ i in
      let either : ((r == integer_sort) || has_parent (is_integer_sort signature) row.parent) ≡ true = sym (valid.integer_kinds r row e) ∙ kind in
      or_cases (is_integer_sort signature p ≡ true) (r == integer_sort) (has_parent (is_integer_sort signature) row.parent)
      (λ t. let same : r ≡ integer_sort = same_number r integer_sort t in let top : parent_of signature r ≡ None = rw same integer_on_top in cc)
      (λ t. ap (has_parent (is_integer_sort signature)) (sym f) ∙ t) either)

  integer_up : (k r s : ℕ) → is_integer_sort signature r ≡ true → descends signature k r s ≡ true → is_integer_sort signature s ≡ true
  integer_up zero r s i h = let same : r ≡ s = same_number r s h in rw (← same) i
  integer_up (suc k) r s i h =
      test_cases (is_integer_sort signature s ≡ true) (r == s) (λ t. let same : r ≡ s = same_number r s t in rw (← same) i)
      (λ t. let on = goes_on signature k r s t h in integer_up k on.parent s (integer_parent r on.parent i on.is) on.above)

  -- ---- values

  plain_extent : (s : ℕ) (row : SortRow) → slice_get signature.sorts s ≡ Some row → row.kind ≡ plain → extent_at (universe_of signature) s ≡ members (length signature.constants) (is_constant_in signature s)
  plain_extent s row found k = extent_of_sort signature s (slice_get_within signature.sorts s row found) ∙ rw (found, k) refl

  -- the values of a plain sort
  pub plain_sort_extent : (s : ℕ) → is_plain_sort signature s ≡ true → extent_at (universe_of signature) s ≡ members (length signature.constants) (is_constant_in signature s)
  plain_sort_extent s h = row_at s (λ row. kind_is_plain row.kind) _ h (λ row e f. plain_extent s row e (is_plain row.kind f))

  pub constant_known : (s c : ℕ) → is_constant_in signature s c ≡ true → c < length signature.constants
  constant_known s c h = by_row (slice_get signature.constants c) refl h
    where
      by_row : (o : Option ConstantRow) → slice_get signature.constants c ≡ o → is_constant_in signature s c ≡ true → c < length signature.constants
      by_row None e g = let none : false ≡ true = rw e at g in cc
      by_row (Some row) e g = slice_get_within signature.constants c row e

  constant_up : (r s c : ℕ) → is_within signature r s ≡ true → is_constant_in signature r c ≡ true → is_constant_in signature s c ≡ true
  constant_up r s c w h = by_row (slice_get signature.constants c) refl h
    where
      by_row : (o : Option ConstantRow) → slice_get signature.constants c ≡ o → is_constant_in signature r c ≡ true → is_constant_in signature s c ≡ true
      by_row None e g = let none : false ≡ true = rw e at g in cc
      by_row (Some row) e g = let in-r : is_within signature row.sort r ≡ true = rw e at g in rw e (within_within signature valid row.sort r s in-r w)

  module _ (r s : ℕ) (v : ℤ) (within : is_within signature r s ≡ true) (value : IsValueOf (extent_at (universe_of signature) r) v) where
    same_value : r ≡ s → IsValueOf (extent_at (universe_of signature) s) v
    same_value e = let P : ℕ → Type 0 = λ q. IsValueOf (extent_at (universe_of signature) q) v in subst P e value

    -- between plain sorts
    plain_up : (low high : SortRow) → slice_get signature.sorts r ≡ Some low → slice_get signature.sorts s ≡ Some high → low.kind ≡ plain → high.kind ≡ plain → IsValueOf (extent_at (universe_of signature) s) v
    plain_up low high e f k l =
        let below : IsValueOf (members (length signature.constants) (is_constant_in signature r)) v = rw (plain_extent r low e k) at value in
        let m = member_of (length signature.constants) (is_constant_in signature r) v below in
        let above = member_is (length signature.constants) (is_constant_in signature s) m.number m.below (constant_up r s m.number within m.passes) in
        rw (plain_extent s high f l, m.is) above

    from_row : (low high : SortRow) (kind : Kind) → slice_get signature.sorts r ≡ Some low → slice_get signature.sorts s ≡ Some high → low.kind ≡ kind → high.kind ≡ plain → IsValueOf (extent_at (universe_of signature) s) v
    from_row low high plain e f k l = plain_up low high e f k l
    from_row low high integer e f k l =
        let i : is_integer_sort signature r ≡ true = rw (e, k) refl in
        let j = integer_up (length signature.sorts) r s i within in
        let no : is_integer_sort signature s ≡ false = rw (f, l) refl in
        cc
    from_row low high event_kind e f k l =
        let t : (r == event_sort) ≡ true = sym (valid.event_kinds r low e) ∙ ap kind_is_event k in
        let same : r ≡ event_sort = same_number r event_sort t in
        let top : parent_of signature r ≡ None = rw same event_on_top in
        same_value (top_alone (length signature.sorts) r s top within)
    from_row low high fluent_kind e f k l =
        let t : (r == fluent_sort) ≡ true = sym (valid.fluent_kinds r low e) ∙ ap kind_is_fluent k in
        let same : r ≡ fluent_sort = same_number r fluent_sort t in
        let top : parent_of signature r ≡ None = rw same fluent_on_top in
        same_value (top_alone (length signature.sorts) r s top within)

    to_row : (low high : SortRow) (kind : Kind) → is_integer_sort signature s ≡ false → slice_get signature.sorts r ≡ Some low → slice_get signature.sorts s ≡ Some high → high.kind ≡ kind → IsValueOf (extent_at (universe_of signature) s) v
    to_row low high plain i e f l = from_row low high low.kind e f refl l
    to_row low high integer i e f l = let whole : is_integer_sort signature s ≡ true = rw (f, l) refl in cc
    to_row low high event_kind i e f l =
        let t : (s == event_sort) ≡ true = sym (valid.event_kinds s high f) ∙ ap kind_is_event l in
        same_value (within_reified (length signature.sorts) r s (or_left (s == event_sort) (s == fluent_sort) t) within)
    to_row low high fluent_kind i e f l =
        let t : (s == fluent_sort) ≡ true = sym (valid.fluent_kinds s high f) ∙ ap kind_is_fluent l in
        same_value (within_reified (length signature.sorts) r s (or_right (s == event_sort) (s == fluent_sort) t) within)

    row_known : (q : ℕ) (P : Type 0) → q < length signature.sorts → ((row : SortRow) → slice_get signature.sorts q ≡ Some row → P) → P
    row_known q P l f = by_row (slice_get signature.sorts q) refl
      where
        by_row : (o : Option SortRow) → slice_get signature.sorts q ≡ o → P
        by_row None e = absurd (known_some signature.sorts q l e)
        by_row (Some row) e = f row e

    -- where the sort above isn't one of whole numbers
    pub value_up : r < length signature.sorts → is_integer_sort signature s ≡ false → IsValueOf (extent_at (universe_of signature) s) v
    value_up l i =
        row_known r _ l (λ low e. row_known s _ (known_up (length signature.sorts) r s l within) (λ high f. to_row low high high.kind i e f refl))
