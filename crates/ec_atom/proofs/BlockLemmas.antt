-- The tuples of symbols, one symbol after the other.
use Rattle.std.proofs.Common.{◌≡◌, ℕ, zero, suc, ◌+◌, ◌-◌, ◌<◌, ◌≤◌, ◌^◌, min, nat_lt, leb, Bool, true, false, is_some, ℤ, List, [], ◌∷◌, ◌++◌, length, map, take, drop, get_or, slice_get, Some, option_map, refl, sym, ap, ◌∙◌, arith, append_assoc, Vec, Global}
use Rattle.std.specs.List.{range_with_len}
use Rattle.std.specs.List.Sorted.{IsNonDecreasingBy, IsPartitionPoint}
use Rattle.std.proofs.lemmas.Bool.Decides.{nat_tests}
use Rattle.std.proofs.lemmas.Option.{slice_get-map, slice_get_within}
use Rattle.std.proofs.lemmas.List.{drop_more, take_all, append-nil}
use Rattle.std.proofs.lemmas.List.FromFn.{get_or-map-range_with_len, length-map-range_with_len, map-range_with_len_more}
use Rattle.ec_logic.specs.Universe.{Universe, row_of, tuples, tuple_at, tuple_rank, before, symbol_at}
use Rattle.ec_logic.proofs.Tuples.{tuple_rank_below}
use Rattle.ec_logic.proofs.Numbering.{tuple_rank-tuple_at}
use Rattle.ec_atom.specs.declared.blocks.Argument.{Argument}
use Rattle.ec_atom.specs.declared.blocks.Blocks.{Blocks}
use Rattle.ec_atom.specs.Blocks.{sorts_of, IsRow, argument_rows, rows_in, with_strides, AreBlocks, AreBlocksOf, number_in, Application, application_at}

-- ---- symbols before a symbol

pub before_step : (universe : Universe) (rows : List (List ℕ)) (k : ℕ) → k < length rows → before universe rows (k + 1) ≡ before universe rows k + tuples universe (row_of rows k)
before_step universe [] k h = absurd (omega (arith, h))
before_step universe (ss ∷ rows) zero h = at_first rows
  where
    at_first : (more : List (List ℕ)) → tuples universe ss + before universe more 0 ≡ 0 + tuples universe ss
    at_first [] = omega arith
    at_first (r ∷ more) = omega arith
before_step universe (ss ∷ rows) (suc k) h =
    let e : suc k + 1 ≡ suc (k + 1) = omega arith in
    rw e (omega (arith, before_step universe rows k (omega (arith, h))))

pub before_rises : (universe : Universe) (rows : List (List ℕ)) (i j : ℕ) → i ≤ j → before universe rows i ≤ before universe rows j
before_rises universe [] i j h = omega arith
before_rises universe (ss ∷ rows) zero j h = omega arith
before_rises universe (ss ∷ rows) (suc i) zero h = absurd (omega (arith, h))
before_rises universe (ss ∷ rows) (suc i) (suc j) h = omega (arith, before_rises universe rows i j (omega (arith, h)))

pub before_none : (universe : Universe) (rows : List (List ℕ)) → before universe rows 0 ≡ 0
before_none universe [] = refl
before_none universe (ss ∷ rows) = refl

pub row_within : (universe : Universe) (rows : List (List ℕ)) (k : ℕ) → k < length rows → before universe rows k + tuples universe (row_of rows k) ≤ before universe rows (length rows)
row_within universe rows k h = let s = before_step universe rows k h in let r = before_rises universe rows (k + 1) (length rows) (omega (arith, h)) in omega (arith, s, r)

-- a number in a symbol's block
pub symbol_found : (universe : Universe) (rows : List (List ℕ)) (k number : ℕ) → k < length rows → before universe rows k ≤ number → number < before universe rows (k + 1) → symbol_at universe rows number ≡ (k, number - before universe rows k)
symbol_found universe [] k number h low high = absurd (omega (arith, h))
symbol_found universe (ss ∷ rows) zero number h low high =
    let n = before_none universe rows in
    let inside : nat_lt number (tuples universe ss) ≡ true = grind (arith, nat_tests, high, n) in
    let same : number - 0 ≡ number = omega arith in
    rw (inside, same) refl
symbol_found universe (ss ∷ rows) (suc k) number h low high =
    let e : suc k + 1 ≡ suc (k + 1) = omega arith in
    let up = rw e at high in
    let outside : nat_lt number (tuples universe ss) ≡ false = grind (arith, nat_tests, low) in
    let next = symbol_found universe rows k (number - tuples universe ss) (omega (arith, h)) (omega (arith, low)) (omega (arith, low, up)) in
    let same : number - tuples universe ss - before universe rows k ≡ number - (tuples universe ss + before universe rows k) = omega arith in
    rw (outside, next, same) refl

-- ---- the tables

module _ (universe : Universe) (blocks : Blocks) (are : AreBlocks universe blocks) where
  abbrev rows : List (List ℕ)
  rows = rows_in blocks

  pub firsts_count : length blocks.firsts.items ≡ length rows + 1
  firsts_count = ap length are.firsts ∙ length-map-range_with_len (before universe rows) 0 (length rows + 1)

  pub first_found : (k d : ℕ) → k ≤ length rows → get_or blocks.firsts.items k d ≡ before universe rows k
  first_found k d h = ap (λ xs. get_or xs k d) are.firsts ∙ get_or-map-range_with_len (before universe rows) 0 (length rows + 1) k k d (omega (arith, h)) (omega arith)

  pub firsts_rise : IsNonDecreasingBy (λ (n : ℕ). n) blocks.firsts.items
  firsts_rise i j d h l =
      let c = firsts_count in
      let r = before_rises universe rows i j h in
      let a = first_found i d (omega (arith, h, l, c)) in
      let b = first_found j d (omega (arith, l, c)) in
      omega (arith, r, a, b)

  -- the sorts of a row
  pub row_sorts : (k : ℕ) (row : List Argument) → slice_get (argument_rows blocks) k ≡ Some row → sorts_of row ≡ row_of rows k
  row_sorts k row h = let e : slice_get rows k ≡ Some (sorts_of row) = slice_get-map sorts_of (argument_rows blocks) k ∙ ap (option_map sorts_of) h in rw e refl

  pub few_sorts : (k : ℕ) (row : List Argument) → k < length rows → slice_get (argument_rows blocks) k ≡ Some row → tuples universe (sorts_of row) < 2 ^ 62
  few_sorts k row l h =
      let w = row_within universe rows k l in
      let f = are.few in
      let same = ap (tuples universe) (row_sorts k row h) in
      omega (arith, w, f, same)

  -- ---- the number of an application

  module _ (k : ℕ) (row : List Argument) (vs : List ℤ) (known : k < length rows) (h : slice_get (argument_rows blocks) k ≡ Some row) where
    pub row_rank : is_some (tuple_rank universe (row_of rows k) vs) ≡ true → is_some (tuple_rank universe (sorts_of row) vs) ≡ true
    row_rank w = rw (row_sorts k row h) w

    module _ (first place : ℕ) (first_is : first ≡ before universe rows k) (place_is : tuple_rank universe (sorts_of row) vs ≡ Some place) where
      here : tuple_rank universe (row_of rows k) vs ≡ Some place
      here = rw (row_sorts k row h) at place_is

      pub number_is : number_in universe rows k vs ≡ Some (first + place)
      number_is = rw (here, first_is) refl

      pub number_below : first + place < before universe rows (length rows)
      number_below =
          let w = row_within universe rows k known in
          let b = tuple_rank_below universe (row_of rows k) vs place here in
          omega (arith, w, b, first_is)

      pub number_small : first + place < 2 ^ 62
      number_small = let b = number_below in let f = are.few in omega (arith, b, f)

  -- ---- the application with a number

  module _ (number c : ℕ) (within : number < before universe rows (length rows)) (point : IsPartitionPoint (λ n. leb n number ≡ true) (λ n. leb n number ≡ false) blocks.firsts.items c) (most : c ≤ length blocks.firsts.items) where
    -- the tests at a symbol
    at_most : (k : ℕ) → k < c → before universe rows k ≤ number
    at_most k h =
        let l = firsts_count in
        let t : leb (get_or blocks.firsts.items k 0) number ≡ true = point.0 k 0 (omega arith) h in
        let e = first_found k 0 (omega (arith, h, most, l)) in
        le_of (get_or blocks.firsts.items k 0) (before universe rows k) e t
      where
        le_of : (x y : ℕ) → x ≡ y → leb x number ≡ true → y ≤ number
        le_of x y e t = grind (arith, nat_tests)

    past : (k : ℕ) → c ≤ k → k ≤ length rows → number < before universe rows k
    past k h w =
        let l = firsts_count in
        let t : leb (get_or blocks.firsts.items k 0) number ≡ false = point.1 k 0 h (omega (arith, w, l)) in
        lt_of (get_or blocks.firsts.items k 0) (before universe rows k) (first_found k 0 w) t
      where
        lt_of : (x y : ℕ) → x ≡ y → leb x number ≡ false → number < y
        lt_of x y e t = grind (arith, nat_tests)

    pub some_first : 1 ≤ c
    some_first = by_order (nat_lt 0 c) refl
      where
        by_order : (b : Bool) → nat_lt 0 c ≡ b → 1 ≤ c
        by_order true e = grind (arith, nat_tests)
        by_order false e = absurd (let p = past 0 (grind (arith, nat_tests)) (omega arith) in let z = before_none universe rows in omega (arith, p, z))

    pub symbol_known : c - 1 < length rows
    symbol_known = by_order (nat_lt (c - 1) (length rows)) refl
      where
        by_order : (b : Bool) → nat_lt (c - 1) (length rows) ≡ b → c - 1 < length rows
        by_order true e = grind (arith, nat_tests)
        by_order false e = absurd (let p = at_most (length rows) (let s = some_first in grind (arith, nat_tests)) in omega (arith, p, within))

    pub symbol_low : before universe rows (c - 1) ≤ number
    symbol_low = at_most (c - 1) (let s = some_first in omega (arith, s))

    symbol_high : number < before universe rows (c - 1 + 1)
    symbol_high =
        let s = some_first in
        let k = symbol_known in
        let e : c - 1 + 1 ≡ c = omega (arith, s) in
        rw e (past c (omega arith) (omega (arith, s, k)))

    module _ (row : List Argument) (h : slice_get (argument_rows blocks) (c - 1) ≡ Some row) (first : ℕ) (first_is : first ≡ before universe rows (c - 1)) where
      place_row : number - first < tuples universe (row_of rows (c - 1))
      place_row =
          let s = before_step universe rows (c - 1) symbol_known in
          let l = symbol_low in
          let u = symbol_high in
          omega (arith, s, l, u, first_is)

      pub place_below : number - first < tuples universe (sorts_of row)
      place_below = let same = ap (tuples universe) (row_sorts (c - 1) row h) in let p = place_row in omega (arith, same, p)

      module _ (args : List ℤ) (args_are : args ≡ tuple_at universe (sorts_of row) (number - first)) where
        args_here : args ≡ tuple_at universe (row_of rows (c - 1)) (number - first)
        args_here = args_are ∙ ap (λ ss. tuple_at universe ss (number - first)) (row_sorts (c - 1) row h)

        pub application_is : (a : Application) → a.symbol ≡ c - 1 → a.args ≡ args → a ≡ application_at universe rows number
        application_is a e f =
            let at : symbol_at universe rows number ≡ (c - 1, number - first) = symbol_found universe rows (c - 1) number symbol_known symbol_low symbol_high ∙ ap (λ x. (c - 1, number - x)) (sym first_is) in
            rw at (same a e (f ∙ args_here))
          where
            same : (b : Application) → b.symbol ≡ c - 1 → b.args ≡ tuple_at universe (row_of rows (c - 1)) (number - first) → b ≡ record { symbol = c - 1; args = tuple_at universe (row_of rows (c - 1)) (number - first) }
            same b x y =
                let made : ℕ → List ℤ → Application = λ s vs. record { symbol = s; args = vs } in
                ap (λ s. made s b.args) x ∙ ap (λ vs. made (c - 1) vs) y

        pub number_again : number_in universe rows (c - 1) args ≡ Some number
        number_again =
            let r = tuple_rank-tuple_at universe (row_of rows (c - 1)) (number - first) place_row in
            let l = symbol_low in
            rw (args_here, r) (ap Some (omega (arith, l, first_is)))

pub vecs_more : (made : List (Vec Argument Global)) (row : Vec Argument Global) → map (λ row. row.items) (made ++ row ∷ []) ≡ map (λ row. row.items) made ++ row.items ∷ []
vecs_more [] row = refl
vecs_more (r ∷ made) row = ap (λ xs. r.items ∷ xs) (vecs_more made row)

-- ---- strides made one after the other

module _ (universe : Universe) where
  pub stride_next : (row : List Argument) (ss : List ℕ) (i d : ℕ) (more : List ℕ) (stride : ℕ) → i < length ss → more ≡ drop (i + 1) ss → stride ≡ min (tuples universe more) (2 ^ 62) → row ++ with_strides universe (drop i ss) ≡ with_strides universe ss
      → (row ++ record { sort = get_or ss i d; stride = stride } ∷ []) ++ with_strides universe (drop (i + 1) ss) ≡ with_strides universe ss
  stride_next row ss i d more stride h m s e =
      let here : with_strides universe (drop i ss) ≡ record { sort = get_or ss i d; stride = stride } ∷ with_strides universe (drop (i + 1) ss) = rw (drop_more ss i d h, s, m) refl in
      append_assoc row (record { sort = get_or ss i d; stride = stride } ∷ []) (with_strides universe (drop (i + 1) ss)) ∙ (ap (λ xs. row ++ xs) (sym here) ∙ e)

  pub stride_end : (row : List Argument) (ss : List ℕ) (i : ℕ) → length ss ≤ i → row ++ with_strides universe (drop i ss) ≡ with_strides universe ss → row ≡ with_strides universe ss
  stride_end row ss i h e = let none : with_strides universe (drop i ss) ≡ [] = rw (drop_past ss i h) refl in sym (append-nil row) ∙ (ap (λ xs. row ++ xs) (sym none) ∙ e)
    where
      drop_past : (xs : List ℕ) (i : ℕ) → length xs ≤ i → drop i xs ≡ []
      drop_past [] zero h = refl
      drop_past [] (suc i) h = refl
      drop_past (x ∷ xs) zero h = absurd (omega (arith, h))
      drop_past (x ∷ xs) (suc i) h = drop_past xs i (omega (arith, h))

  pub sorts_with_strides : (ss : List ℕ) → sorts_of (with_strides universe ss) ≡ ss
  sorts_with_strides [] = refl
  sorts_with_strides (s ∷ ss) = ap (λ xs. s ∷ xs) (sorts_with_strides ss)

  pub row_with_strides : (ss : List ℕ) → IsRow universe (with_strides universe ss)
  row_with_strides [] = tt
  row_with_strides (s ∷ ss) = (rw (sorts_with_strides ss) refl, row_with_strides ss)

  all_sorts : (rows : List (List ℕ)) → map sorts_of (map (with_strides universe) rows) ≡ rows
  all_sorts [] = refl
  all_sorts (ss ∷ rows) = rw (sorts_with_strides ss, all_sorts rows) refl

  each_row : (rows : List (List ℕ)) (k : ℕ) (row : List Argument) → slice_get (map (with_strides universe) rows) k ≡ Some row → IsRow universe row
  each_row [] k row h = cc
  each_row (ss ∷ rows) zero row h = let e : with_strides universe ss ≡ row = cc in rw (← e) (row_with_strides ss)
  each_row (ss ∷ rows) (suc k) row h = each_row rows k row h

  -- ---- and symbol by symbol

  module _ (rows : List (List ℕ)) (place : ℕ) (ss : List ℕ) (at : slice_get rows place ≡ Some ss) where
    place_within : place < length rows
    place_within = slice_get_within rows place ss at

    row_is : row_of rows place ≡ ss
    row_is = rw at refl

    module _ (few : before universe rows (length rows) < 2 ^ 62) (sum more : ℕ) (sum_is : sum ≡ before universe rows place) (more_is : more ≡ min (tuples universe ss) (2 ^ 62)) where
      pub sum_next : sum + more ≡ before universe rows (place + 1)
      sum_next =
          let s = before_step universe rows place place_within in
          let w = row_within universe rows place place_within in
          let e = ap (tuples universe) row_is in
          omega (arith, s, w, e, few, sum_is, more_is)

      pub sum_small : sum + more < 2 ^ 62
      sum_small =
          let n = sum_next in
          let r = before_rises universe rows (place + 1) (length rows) (let p = place_within in omega (arith, p)) in
          omega (arith, n, r, few)

    pub rows_next : (made : List (List Argument)) (row : List Argument) → row ≡ with_strides universe ss → made ≡ map (with_strides universe) (take place rows) → made ++ row ∷ [] ≡ map (with_strides universe) (take (place + 1) rows)
    rows_next made row e m = rw (e, m) (along rows place at)
      where
        along : (xs : List (List ℕ)) (k : ℕ) → slice_get xs k ≡ Some ss → map (with_strides universe) (take k xs) ++ with_strides universe ss ∷ [] ≡ map (with_strides universe) (take (k + 1) xs)
        along [] k h = cc
        along (x ∷ xs) zero h = let here : x ≡ ss = cc in rw here refl
        along (x ∷ xs) (suc k) h = let z : suc k + 1 ≡ suc (k + 1) = omega arith in rw z (ap (λ ys. with_strides universe x ∷ ys) (along xs k h))

  pub firsts_next : (rows : List (List ℕ)) (firsts : List ℕ) (place sum : ℕ) → firsts ≡ map (before universe rows) (range_with_len 0 (place + 1)) → sum ≡ before universe rows (place + 1) → firsts ++ sum ∷ [] ≡ map (before universe rows) (range_with_len 0 (place + 1 + 1))
  firsts_next rows firsts place sum e s = ap (λ xs. xs ++ sum ∷ []) e ∙ (ap (λ x. map (before universe rows) (range_with_len 0 (place + 1)) ++ x ∷ []) s ∙ sym (map-range_with_len_more (before universe rows) 0 (place + 1) (place + 1) (omega arith)))

  pub made_blocks : (rows : List (List ℕ)) (blocks : Blocks) (place : ℕ) → place ≡ length rows → before universe rows (length rows) < 2 ^ 62 → blocks.firsts.items ≡ map (before universe rows) (range_with_len 0 (place + 1)) → argument_rows blocks ≡ map (with_strides universe) (take place rows)
      → AreBlocksOf universe rows blocks
  made_blocks rows blocks place end few f r =
      let all : argument_rows blocks ≡ map (with_strides universe) rows = r ∙ ap (map (with_strides universe)) (take_all place rows (omega (arith, end))) in
      let same : rows_in blocks ≡ rows = ap (map sorts_of) all ∙ all_sorts rows in
      record {
        rows_are = same;
        blocks_are = record {
          firsts = rw (same, ← end) f;
          few = rw same few;
          each = λ k row h. each_row rows k row (rw all at h);
        };
      }
