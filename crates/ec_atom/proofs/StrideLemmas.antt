-- Tuples by strides, one argument after the other.
use Rattle.std.proofs.Common.{◌≡◌, ℕ, zero, suc, ◌+◌, ◌*◌, ◌/◌, ◌%◌, ◌<◌, ◌≤◌, ◌^◌, min, true, is_some, ℤ, List, [], ◌∷◌, ◌++◌, length, map, drop, get_or, slice_get, unwrap_or, Option, Some, None, option_map, refl, sym, ap, ◌∙◌, arith, mul-le-mul_right}
use Rattle.std.proofs.Math.Nat.{div-lt_iff_lt-mul, mod-lt}
use Rattle.std.proofs.lemmas.List.{drop_more}
use Rattle.std.proofs.lemmas.Option.{slice_get-map}
use Rattle.ec_logic.specs.Extent.{size_of, rank, value_at}
use Rattle.ec_logic.specs.Universe.{Universe, extent_at, no_values, tuples, tuple_at, tuple_rank, ranked}
use Rattle.ec_logic.proofs.Tuples.{rank_below, tuple_rank_below}
use Rattle.ec_theory.specs.Values.{numbers_of}
use Rattle.ec_theory.specs.declared.value.Value.{Value}
use Rattle.ec_atom.specs.declared.blocks.Argument.{Argument}
use Rattle.ec_atom.specs.declared.table.Values.{Values}
use Rattle.ec_atom.specs.Table.{extent_of_values}
use Rattle.ec_atom.specs.Blocks.{universe_in, sorts_of, IsRow}

-- ---- the table of a sort

-- a sort with a value has a table
pub record HasTable (tables : List Values) (s : ℕ) : Type 0 where
  pub values : Values
  pub found : slice_get tables s ≡ Some values
  pub extent : extent_at (universe_in tables) s ≡ extent_of_values values

pub table_of : (tables : List Values) (s k : ℕ) → k < size_of (extent_at (universe_in tables) s) → HasTable tables s
table_of tables s k h = cases (slice_get tables s) refl (slice_get-map extent_of_values tables s)
  where
    cases : (o : Option Values) → slice_get tables s ≡ o → slice_get (map extent_of_values tables) s ≡ option_map extent_of_values o → HasTable tables s
    cases None f e = absurd (let none : k < size_of (unwrap_or None no_values) = rw e at h in omega (arith, none))
    cases (Some values) f e = record { values = values; found = f; extent = rw e refl }

pub table_of_value : (tables : List Values) (s : ℕ) (v : ℤ) → is_some (rank (extent_at (universe_in tables) s) v) ≡ true → HasTable tables s
table_of_value tables s v h = cases (rank (extent_at (universe_in tables) s) v) refl h
  where
    cases : (o : Option ℕ) → rank (extent_at (universe_in tables) s) v ≡ o → is_some o ≡ true → HasTable tables s
    cases None e t = cc
    cases (Some k) e t = table_of tables s k (rank_below (extent_at (universe_in tables) s) v k e)

-- ---- the place of a tuple

-- the place of what is left, after so many
abbrev pub after : ℕ → Option ℕ → Option ℕ
after place rest = option_map (λ k. place + k) rest

pub after_none : (o : Option ℕ) → after 0 o ≡ o
after_none None = refl
after_none (Some k) = ap Some (omega arith)

module _ (universe : Universe) where
  -- as many sorts as values
  pub same_lengths : (ss : List ℕ) (vs : List ℤ) (k : ℕ) → tuple_rank universe ss vs ≡ Some k → length ss ≡ length vs
  same_lengths [] [] k h = refl
  same_lengths [] (v ∷ vs) k h = cc
  same_lengths (s ∷ ss) [] k h = cc
  same_lengths (s ∷ ss) (v ∷ vs) k h = cases (same_lengths ss vs) (rank (extent_at universe s) v) (tuple_rank universe ss vs) refl h
    where
      cases : ((j : ℕ) → tuple_rank universe ss vs ≡ Some j → length ss ≡ length vs) → (a b : Option ℕ) → tuple_rank universe ss vs ≡ b → ranked (tuples universe ss) a b ≡ Some k → suc (length ss) ≡ suc (length vs)
      cases next None b e h = cc
      cases next (Some i) None e h = cc
      cases next (Some i) (Some j) e h = ap suc (next j e)

  -- the first value of a tuple with a place, and what is left
  pub record Parts (s : ℕ) (ss : List ℕ) (v : ℤ) (vs : List ℤ) (k : ℕ) : Type 0 where
    pub first : ℕ
    pub rest : ℕ
    pub first_is : rank (extent_at universe s) v ≡ Some first
    pub rest_is : tuple_rank universe ss vs ≡ Some rest
    pub sum : first * tuples universe ss + rest ≡ k

  pub parts_of : (s : ℕ) (ss : List ℕ) (v : ℤ) (vs : List ℤ) (k : ℕ) → tuple_rank universe (s ∷ ss) (v ∷ vs) ≡ Some k → Parts s ss v vs k
  parts_of s ss v vs k h = cases (rank (extent_at universe s) v) (tuple_rank universe ss vs) refl refl h
    where
      cases : (a b : Option ℕ) → rank (extent_at universe s) v ≡ a → tuple_rank universe ss vs ≡ b → ranked (tuples universe ss) a b ≡ Some k → Parts s ss v vs k
      cases None b d e h = cc
      cases (Some i) None d e h = cc
      cases (Some i) (Some j) d e h = record { first = i; rest = j; first_is = d; rest_is = e; sum = cc }

  -- where the first sort has a value, the others have no more tuples than all
  fewer : (s : ℕ) (ss : List ℕ) (j : ℕ) → j < size_of (extent_at universe s) → tuples universe ss ≤ tuples universe (s ∷ ss)
  fewer s ss j h =
      let one : 1 ≤ size_of (extent_at universe s) = omega (arith, h) in
      let m : 1 * tuples universe ss ≤ size_of (extent_at universe s) * tuples universe ss = mul-le-mul_right (tuples universe ss) one in
      omega (arith, m)

  -- ---- one argument of a row

  -- what is known of the arguments from a place on
  pub record Facts (row : List Argument) (a : Argument) (rest : List Argument) : Type 0 where
    pub stride : a.stride ≡ min (tuples universe (sorts_of rest)) (2 ^ 62)
    pub row_rest : IsRow universe rest

  facts_of : (row rest : List Argument) (a : Argument) → row ≡ a ∷ rest → IsRow universe row → Facts row a rest
  facts_of row rest a e h = let both = rw e at h in record { stride = both.0; row_rest = both.1 }

  numbers_drop : (vs : List Value) (i : ℕ) (d : Value) → i < length vs → numbers_of (drop i vs) ≡ (get_or vs i d).0 ∷ numbers_of (drop (i + 1) vs)
  numbers_drop vs i d h = rw (drop_more vs i d h) refl

  length_sorts : (row : List Argument) → length (sorts_of row) ≡ length row
  length_sorts [] = refl
  length_sorts (a ∷ row) = ap suc (length_sorts row)

  length_numbers : (vs : List Value) → length (numbers_of vs) ≡ length vs
  length_numbers [] = refl
  length_numbers (v ∷ vs) = ap suc (length_numbers vs)

  -- a tuple of a row's sorts has as many values as the row has arguments
  pub args_within : (row : List Argument) (vs : List Value) → is_some (tuple_rank universe (sorts_of row) (numbers_of vs)) ≡ true → length row ≡ length vs
  args_within row vs h = cases (tuple_rank universe (sorts_of row) (numbers_of vs)) refl h
    where
      cases : (o : Option ℕ) → tuple_rank universe (sorts_of row) (numbers_of vs) ≡ o → is_some o ≡ true → length row ≡ length vs
      cases None e t = cc
      cases (Some k) e t = let l = same_lengths (sorts_of row) (numbers_of vs) k e in omega (arith, l, length_sorts row, length_numbers vs)

  -- ---- the place, with one value more

  module _ (row : List Argument) (vs : List Value) (i place : ℕ) (a d : Argument) (v e : Value) (at : i < length row) (a_is : a ≡ get_or row i d) (v_is : v ≡ get_or vs i e)
      (row_left : IsRow universe (drop i row)) (few : tuples universe (sorts_of row) < 2 ^ 62) (few_left : tuples universe (sorts_of (drop i row)) < 2 ^ 62)
      (left : after place (tuple_rank universe (sorts_of (drop i row)) (numbers_of (drop i vs))) ≡ tuple_rank universe (sorts_of row) (numbers_of vs)) (within : is_some (tuple_rank universe (sorts_of row) (numbers_of vs)) ≡ true) where
    inside : i < length vs
    inside = let l = args_within row vs within in omega (arith, at, l)

    row_is : drop i row ≡ a ∷ drop (i + 1) row
    row_is = drop_more row i d at ∙ ap (λ x. x ∷ drop (i + 1) row) (sym a_is)

    vs_are : drop i vs ≡ v ∷ drop (i + 1) vs
    vs_are = drop_more vs i e inside ∙ ap (λ x. x ∷ drop (i + 1) vs) (sym v_is)

    -- the whole place, and its parts from here on
    pub record Whole : Type 0 where
      pub whole : ℕ
      pub whole_is : tuple_rank universe (sorts_of row) (numbers_of vs) ≡ Some whole
      pub part : ℕ
      pub part_is : tuple_rank universe (a.sort ∷ sorts_of (drop (i + 1) row)) (v.0 ∷ numbers_of (drop (i + 1) vs)) ≡ Some part
      pub sum : place + part ≡ whole

    pub whole_of : Whole
    whole_of = cases (tuple_rank universe (sorts_of row) (numbers_of vs)) refl (tuple_rank universe (a.sort ∷ sorts_of (drop (i + 1) row)) (v.0 ∷ numbers_of (drop (i + 1) vs))) refl (rw (row_is, vs_are) at left) within
      where
        cases : (o : Option ℕ) → tuple_rank universe (sorts_of row) (numbers_of vs) ≡ o
            → (p : Option ℕ) → tuple_rank universe (a.sort ∷ sorts_of (drop (i + 1) row)) (v.0 ∷ numbers_of (drop (i + 1) vs)) ≡ p
            → after place (tuple_rank universe (a.sort ∷ sorts_of (drop (i + 1) row)) (v.0 ∷ numbers_of (drop (i + 1) vs))) ≡ tuple_rank universe (sorts_of row) (numbers_of vs)
            → is_some (tuple_rank universe (sorts_of row) (numbers_of vs)) ≡ true → Whole
        cases None e p f l w = cc
        cases (Some k) e None f l w = cc
        cases (Some k) e (Some j) f l w = record { whole = k; whole_is = e; part = j; part_is = f; sum = cc }

    pub parts : Parts a.sort (sorts_of (drop (i + 1) row)) v.0 (numbers_of (drop (i + 1) vs)) (whole_of).part
    parts = parts_of a.sort (sorts_of (drop (i + 1) row)) v.0 (numbers_of (drop (i + 1) vs)) whole_of.part whole_of.part_is

    pub value_within : is_some (rank (extent_at universe a.sort) v.0) ≡ true
    value_within = rw parts.first_is refl

    fewer_left : tuples universe (sorts_of (drop (i + 1) row)) ≤ tuples universe (sorts_of (drop i row))
    fewer_left =
        let f = fewer a.sort (sorts_of (drop (i + 1) row)) parts.first (rank_below (extent_at universe a.sort) v.0 parts.first parts.first_is) in
        let same : tuples universe (sorts_of (drop i row)) ≡ tuples universe (a.sort ∷ sorts_of (drop (i + 1) row)) = ap (λ x. tuples universe (sorts_of x)) row_is in
        omega (arith, f, same)

    pub few_next : tuples universe (sorts_of (drop (i + 1) row)) < 2 ^ 62
    few_next = let f = fewer_left in omega (arith, f, few_left)

    facts : Facts (drop i row) a (drop (i + 1) row)
    facts = facts_of (drop i row) (drop (i + 1) row) a row_is row_left

    pub row_next : IsRow universe (drop (i + 1) row)
    row_next = facts.row_rest

    stride_is : a.stride ≡ tuples universe (sorts_of (drop (i + 1) row))
    stride_is = let s = facts.stride in let f = few_next in omega (arith, s, f)

    module _ (r : ℕ) (r_is : rank (extent_at universe a.sort) v.0 ≡ Some r) where
      first_same : r ≡ parts.first
      first_same = let e = parts.first_is in cc

      pub place_next_is : place + r * a.stride + parts.rest ≡ whole_of.whole
      place_next_is =
          let s = parts.sum in
          let w = whole_of.sum in
          let p : r * a.stride ≡ parts.first * tuples universe (sorts_of (drop (i + 1) row)) = ap (λ x. x * a.stride) first_same ∙ ap (λ x. parts.first * x) stride_is in
          omega (arith, s, w, p)

      pub place_small : place + r * a.stride < 2 ^ 62
      place_small = let n = place_next_is in let b = tuple_rank_below universe (sorts_of row) (numbers_of vs) whole_of.whole whole_of.whole_is in omega (arith, n, b, few)

      pub product_small : r * a.stride < 2 ^ 62
      product_small = let n = place_small in omega (arith, n)

      pub left_next : after (place + r * a.stride) (tuple_rank universe (sorts_of (drop (i + 1) row)) (numbers_of (drop (i + 1) vs))) ≡ tuple_rank universe (sorts_of row) (numbers_of vs)
      left_next = rw (parts.rest_is, whole_of.whole_is) (ap Some place_next_is)

  -- at the end of the row nothing is left
  pub place_end : (row : List Argument) (vs : List Value) (i place : ℕ) → length row ≤ i → is_some (tuple_rank universe (sorts_of row) (numbers_of vs)) ≡ true
      → after place (tuple_rank universe (sorts_of (drop i row)) (numbers_of (drop i vs))) ≡ tuple_rank universe (sorts_of row) (numbers_of vs) → tuple_rank universe (sorts_of row) (numbers_of vs) ≡ Some place
  place_end row vs i place h w left =
      let l = args_within row vs w in
      sym (rw (drop_past row i h, drop_past vs i (omega (arith, h, l))) at left) ∙ ap Some (omega arith)
    where
      drop_past : {X : Type 0} (xs : List X) (i : ℕ) → length xs ≤ i → drop i xs ≡ []
      drop_past [] zero h = refl
      drop_past [] (suc i) h = refl
      drop_past (x ∷ xs) zero h = absurd (omega (arith, h))
      drop_past (x ∷ xs) (suc i) h = drop_past xs i (omega (arith, h))

  -- ---- the tuple, with one value more

  factor_positive : (k s n : ℕ) → k < s * n → 0 < n
  factor_positive k s zero h = absurd (omega (arith, h))
  factor_positive k s (suc n) h = omega arith

  module _ (row : List Argument) (i rest : ℕ) (a d : Argument) (at : i < length row) (a_is : a ≡ get_or row i d) (row_left : IsRow universe (drop i row)) (few_left : tuples universe (sorts_of (drop i row)) < 2 ^ 62) (below : rest < tuples universe (sorts_of (drop i row))) where
    rows_are : drop i row ≡ a ∷ drop (i + 1) row
    rows_are = drop_more row i d at ∙ ap (λ x. x ∷ drop (i + 1) row) (sym a_is)

    product : rest < size_of (extent_at universe a.sort) * tuples universe (sorts_of (drop (i + 1) row))
    product = rw rows_are at below

    count_positive : 0 < tuples universe (sorts_of (drop (i + 1) row))
    count_positive = factor_positive rest (size_of (extent_at universe a.sort)) (tuples universe (sorts_of (drop (i + 1) row))) product

    digit : rest / tuples universe (sorts_of (drop (i + 1) row)) < size_of (extent_at universe a.sort)
    digit = (div-lt_iff_lt-mul count_positive).1 product

    pub few_after : tuples universe (sorts_of (drop (i + 1) row)) < 2 ^ 62
    few_after =
        let f = fewer a.sort (sorts_of (drop (i + 1) row)) (rest / tuples universe (sorts_of (drop (i + 1) row))) digit in
        let l = rw rows_are at few_left in
        omega (arith, f, l)

    these : Facts (drop i row) a (drop (i + 1) row)
    these = facts_of (drop i row) (drop (i + 1) row) a rows_are row_left

    pub row_after : IsRow universe (drop (i + 1) row)
    row_after = these.row_rest

    stride_tuples : a.stride ≡ tuples universe (sorts_of (drop (i + 1) row))
    stride_tuples = let s = these.stride in let f = few_after in omega (arith, s, f)

    pub stride_positive : 0 < a.stride
    stride_positive = rw stride_tuples count_positive

    pub digit_below : rest / a.stride < size_of (extent_at universe a.sort)
    digit_below = rw stride_tuples digit

    pub rest_below : rest % a.stride < tuples universe (sorts_of (drop (i + 1) row))
    rest_below = rw stride_tuples (mod-lt rest count_positive)

    pub tuple_next : (args : List Value) (v : Value) (all : List ℤ) → v.0 ≡ value_at (extent_at universe a.sort) (rest / a.stride) → numbers_of args ++ tuple_at universe (sorts_of (drop i row)) rest ≡ all
        → numbers_of (args ++ v ∷ []) ++ tuple_at universe (sorts_of (drop (i + 1) row)) (rest % a.stride) ≡ all
    tuple_next args v all e h =
        let here : tuple_at universe (sorts_of (drop i row)) rest ≡ v.0 ∷ tuple_at universe (sorts_of (drop (i + 1) row)) (rest % a.stride) = rw (rows_are, e, stride_tuples) refl in
        one_more args ∙ (ap (λ vs. numbers_of args ++ vs) (sym here) ∙ h)
      where
        one_more : (args : List Value) → numbers_of (args ++ v ∷ []) ++ tuple_at universe (sorts_of (drop (i + 1) row)) (rest % a.stride) ≡ numbers_of args ++ v.0 ∷ tuple_at universe (sorts_of (drop (i + 1) row)) (rest % a.stride)
        one_more [] = refl
        one_more (x ∷ args) = ap (λ vs. x.0 ∷ vs) (one_more args)
