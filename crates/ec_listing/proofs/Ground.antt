-- The texts of ground events and fluents, read from the front.
use Rattle.std.proofs.Common.{◌≡◌, ℕ, suc, ◌+◌, ◌-◌, ◌<◌, ◌≤◌, nat_lt, Bool, true, false, List, [], ◌∷◌, ◌++◌, length, slice_get, unwrap_or, Some, option_map, ℤ, pos, refl, sym, ap, ◌∙◌, subst, arith}
use Rattle.std.specs.List.{AllByRecursion}
use Rattle.std.proofs.lemmas.Bool.Decides.{nat_tests}
use Rattle.std.proofs.lemmas.Option.{slice_get-map}
use Rattle.ec_logic.specs.Signature.{Signature, SymbolRow}
use Rattle.ec_logic.specs.Universe.{Universe, universe_of, ground_terms, argument_sorts, row_of, tuples, tuple_at, tuple_rank, before, symbol_at, next_symbol}
use Rattle.ec_logic.specs.Narrative.{ground_text, simple_text, comma_separated, texts_of, applied, symbol_name}
use Rattle.ec_logic.specs.Valid.{IsSignature, EachArgument, is_reified_sort, is_upper_word}
use Rattle.ec_logic.proofs.Counted.{same_count}
use Rattle.ec_logic.proofs.Extents.{ground_events, ground_fluents}
use Rattle.ec_logic.proofs.Numbering.{tuple_rank-tuple_at}
use Rattle.ec_listing.proofs.Decoding.{IsDecoded, AreValues, ranked_values, arguments_decoded, name_decoded}
use Rattle.ec_listing.proofs.Names.{upper_plain}
use Rattle.ec_listing.proofs.Values.{some_at, IsPrinted, is_printed, upper_printed, applied_printed, texts_printed, simple_decoded, simple_printed}

-- ---- the symbol to which a place belongs

pub record IsSymbolAt (universe : Universe) (rows : List (List ℕ)) (n : ℕ) (found : ℕ × ℕ) : Type 0 where
  pub known : found.0 < length rows
  pub low : found.1 < tuples universe (row_of rows found.0)
  pub number : before universe rows found.0 + found.1 ≡ n

symbol_is : (universe : Universe) (rows : List (List ℕ)) (n : ℕ) → n < before universe rows (length rows) → IsSymbolAt universe rows n (symbol_at universe rows n)
symbol_is universe [] n h = absurd (omega (arith, h))
symbol_is universe (ss ∷ rows) n h = by_test (nat_lt n (tuples universe ss)) refl (symbol_is universe rows (n - tuples universe ss))
  where
    by_test : (b : Bool) → nat_lt n (tuples universe ss) ≡ b → (n - tuples universe ss < before universe rows (length rows) → IsSymbolAt universe rows (n - tuples universe ss) (symbol_at universe rows (n - tuples universe ss)))
        → IsSymbolAt universe (ss ∷ rows) n (next_symbol (tuples universe ss) b n (symbol_at universe rows (n - tuples universe ss)))
    by_test true e next = record { known = omega arith; low = grind (arith, nat_tests); number = omega arith }
    by_test false e next =
        let high : tuples universe ss ≤ n = grind (arith, nat_tests) in
        let later = next (omega (arith, high, h)) in
        record { known = omega (arith, later.known); low = later.low; number = omega (arith, later.number, high) }

-- ---- ground terms

pub record IsGround (signature : Signature) (rows : List SymbolRow) (n : ℕ) : Type 0 where
  pub symbol : ℕ
  pub row : SymbolRow
  pub place : ℕ
  pub found : slice_get rows symbol ≡ Some row
  pub low : place < tuples (universe_of signature) row.sorts
  pub number : before (universe_of signature) (argument_sorts rows) symbol + place ≡ n
  pub at : (symbol_at (universe_of signature) (argument_sorts rows) n).0 ≡ symbol
  pub text : ground_text signature rows (pos n) ≡ applied row.name (texts_of (simple_text signature) row.sorts (tuple_at (universe_of signature) row.sorts place))

-- What is so of the rows of events and of fluents.
pub record AreGroundRows (signature : Signature) (rows : List SymbolRow) : Type 0 where
  pub same : (i j : ℕ) (a b : SymbolRow) → slice_get rows i ≡ Some a → slice_get rows j ≡ Some b → a.name ≡ b.name → i ≡ j
  pub upper : (k : ℕ) (row : SymbolRow) → slice_get rows k ≡ Some row → is_upper_word row.name ≡ true
  pub known : EachArgument rows (λ s. s < length signature.sorts)
  pub unreified : EachArgument rows (λ s. is_reified_sort signature s ≡ false)

pub row_sorts : (rows : List SymbolRow) (k : ℕ) (row : SymbolRow) → slice_get rows k ≡ Some row → row_of (argument_sorts rows) k ≡ row.sorts
row_sorts rows k row h = ap (λ o. unwrap_or o []) (slice_get-map (λ (r : SymbolRow). r.sorts) rows k ∙ ap (option_map (λ (r : SymbolRow). r.sorts)) h)

pub sorts_length : (rows : List SymbolRow) → length (argument_sorts rows) ≡ length rows
sorts_length [] = refl
sorts_length (row ∷ rows) = ap suc (sorts_length rows)

pub name_at : (rows : List SymbolRow) (k : ℕ) (row : SymbolRow) → slice_get rows k ≡ Some row → symbol_name rows k ≡ row.name
name_at rows k row h = rw h refl

-- a fact of each item by its place, item after item
pub each_item : (P : ℕ → Type 0) (ss : List ℕ) → ((i s : ℕ) → slice_get ss i ≡ Some s → P s) → AllByRecursion P ss
each_item P [] h = tt
each_item P (s ∷ ss) h = (h 0 s refl, each_item P ss (λ i r e. h (suc i) r e))

module _ (signature : Signature) (valid : IsSignature signature) (rows : List SymbolRow) (are : AreGroundRows signature rows) where
  abbrev universe : Universe
  universe = universe_of signature

  counted : ground_terms signature (argument_sorts rows) ≡ before universe (argument_sorts rows) (length (argument_sorts rows))
  counted = same_count signature 0 0 (ground_events signature) (ground_fluents signature) rows (λ k row e i s f. (are.known k row e i s f, are.unreified k row e i s f))

  pub ground_is : (n : ℕ) → n < ground_terms signature (argument_sorts rows) → IsGround signature rows n
  ground_is n h =
      let is = symbol_is universe (argument_sorts rows) n (let c = counted in omega (arith, c, h)) in
      let p = (symbol_at universe (argument_sorts rows) n).0 in
      let k = (symbol_at universe (argument_sorts rows) n).1 in
      let row = some_at rows p (let l = is.known in let m = sorts_length rows in omega (arith, l, m)) in
      let sorts = row_sorts rows p row.0 row.1 in
      record {
        symbol = p;
        row = row.0;
        place = k;
        found = row.1;
        low = (let P : List ℕ → Type 0 = λ ss. k < tuples universe ss in subst P sorts is.low);
        number = is.number;
        at = refl;
        text = ap (λ x. applied x (texts_of (simple_text signature) (row_of (argument_sorts rows) p) (tuple_at universe (row_of (argument_sorts rows) p) k))) (name_at rows p row.0 row.1)
            ∙ ap (λ ss. applied row.0.name (texts_of (simple_text signature) ss (tuple_at universe ss k))) sorts;
      }

  sort_row : (k : ℕ) (row : SymbolRow) (i s : ℕ) → slice_get rows k ≡ Some row → slice_get row.sorts i ≡ Some s → IsDecoded universe (simple_text signature) s
  sort_row k row i s e f = let there = some_at signature.sorts s (are.known k row e i s f) in simple_decoded signature valid s there.0 there.1 (are.unreified k row e i s f)

  sort_printed : (k : ℕ) (row : SymbolRow) (i s : ℕ) → slice_get rows k ≡ Some row → slice_get row.sorts i ≡ Some s → IsPrinted universe (simple_text signature) s
  sort_printed k row i s e f = let there = some_at signature.sorts s (are.known k row e i s f) in simple_printed signature valid s there.0 there.1 (are.unreified k row e i s f)

  abbrev tuple : SymbolRow → ℕ → List ℤ
  tuple row k = tuple_at universe row.sorts k

  values_at : (row : SymbolRow) (k : ℕ) → k < tuples universe row.sorts → AreValues universe row.sorts (tuple row k)
  values_at row k h = ranked_values universe row.sorts (tuple row k) k (tuple_rank-tuple_at universe row.sorts k h)

  some_same : (a b : ℕ) → Some a ≡ Some b → a ≡ b
  some_same a b e = cc

  one_place : (row : SymbolRow) (j k : ℕ) → j < tuples universe row.sorts → k < tuples universe row.sorts → tuple row j ≡ tuple row k → j ≡ k
  one_place row j k h l e = some_same j k (sym (tuple_rank-tuple_at universe row.sorts j h) ∙ (ap (tuple_rank universe row.sorts) e ∙ tuple_rank-tuple_at universe row.sorts k l))

  pub record SameTerm (n m : ℕ) (r q : List ℕ) : Type 0 where
    pub term : n ≡ m
    pub rest : r ≡ q

  some_row : (a b : SymbolRow) → Some a ≡ Some b → a ≡ b
  some_row a b e = cc

  -- two terms of one symbol
  of_symbol : (i : ℕ) (row : SymbolRow) (j k : ℕ) (r q : List ℕ) → slice_get rows i ≡ Some row → j < tuples universe row.sorts → k < tuples universe row.sorts
      → comma_separated (texts_of (simple_text signature) row.sorts (tuple row j)) ++ 41 ∷ r ≡ comma_separated (texts_of (simple_text signature) row.sorts (tuple row k)) ++ 41 ∷ q → SameTerm j k r q
  of_symbol i row j k r q found h l e =
      let decoded = each_item (IsDecoded universe (simple_text signature)) row.sorts (λ x s f. sort_row i row x s found f) in
      let both = arguments_decoded universe (simple_text signature) row.sorts (tuple row j) (tuple row k) r q decoded (values_at row j h) (values_at row k l) e in
      record { term = one_place row j k h l both.0; rest = both.1 }

  -- the terms of two such texts are one
  pub ground_same : (n m : ℕ) (r q : List ℕ) → IsGround signature rows n → IsGround signature rows m → ground_text signature rows (pos n) ++ r ≡ ground_text signature rows (pos m) ++ q → SameTerm n m r q
  ground_same n m r q a b e =
      let left = applied a.row.name (texts_of (simple_text signature) a.row.sorts (tuple a.row a.place)) in
      let right = applied b.row.name (texts_of (simple_text signature) b.row.sorts (tuple b.row b.place)) in
      let texts : left ++ r ≡ right ++ q = ap (λ x. x ++ r) (sym a.text) ∙ (e ∙ ap (λ x. x ++ q) b.text) in
      let named = name_decoded a.row.name b.row.name (texts_of (simple_text signature) a.row.sorts (tuple a.row a.place)) (texts_of (simple_text signature) b.row.sorts (tuple b.row b.place)) r q
      (upper_plain a.row.name (are.upper a.symbol a.row a.found)) (upper_plain b.row.name (are.upper b.symbol b.row b.found)) texts in
      let symbol = are.same a.symbol b.symbol a.row b.row a.found b.found named.0 in
      let row = some_row a.row b.row (sym a.found ∙ (ap (λ i. slice_get rows i) symbol ∙ b.found)) in
      joined a.symbol b.symbol a.row b.row a.place b.place symbol row a.found a.low b.low a.number b.number named.1
    where
      joined : (i j : ℕ) (x y : SymbolRow) (k l : ℕ) → i ≡ j → x ≡ y → slice_get rows i ≡ Some x → k < tuples universe x.sorts → l < tuples universe y.sorts → before universe (argument_sorts rows) i + k ≡ n → before universe (argument_sorts rows) j + l ≡ m
          → comma_separated (texts_of (simple_text signature) x.sorts (tuple x k)) ++ 41 ∷ r ≡ comma_separated (texts_of (simple_text signature) y.sorts (tuple y l)) ++ 41 ∷ q → SameTerm n m r q
      joined i j x y k l d f found low high number other e =
          let P : SymbolRow → Type 0 = λ z. l < tuples universe z.sorts in
          let Q : SymbolRow → Type 0 = λ z. comma_separated (texts_of (simple_text signature) x.sorts (tuple x k)) ++ 41 ∷ r ≡ comma_separated (texts_of (simple_text signature) z.sorts (tuple z l)) ++ 41 ∷ q in
          let one = of_symbol i x k l r q found low (subst P (sym f) high) (subst Q (sym f) e) in
          let same = one.term in
          let base = ap (before universe (argument_sorts rows)) d in
          record { term = omega (arith, number, other, same, base); rest = one.rest }

  pub ground_printed : (n : ℕ) → IsGround signature rows n → is_printed (ground_text signature rows (pos n)) ≡ true
  ground_printed n a =
      let printed = each_item (IsPrinted universe (simple_text signature)) a.row.sorts (λ x s f. sort_printed a.symbol a.row x s a.found f) in
      let texts = texts_of (simple_text signature) a.row.sorts (tuple a.row a.place) in
      ap is_printed a.text ∙ applied_printed a.row.name texts (upper_printed a.row.name (are.upper a.symbol a.row a.found)) (texts_printed universe (simple_text signature) a.row.sorts (tuple a.row a.place) printed (values_at a.row a.place a.low))
