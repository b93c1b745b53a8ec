-- What tables and blocks say, said of the signature that they were made of.
use Rattle.std.proofs.Common.{◌≡◌, ℕ, zero, suc, ◌+◌, ◌-◌, ◌%◌, ◌<◌, ◌≤◌, true, is_some, ℤ, pos, List, [], ◌∷◌, length, map, slice_get, Option, Some, None, option_map, refl, sym, ap, ◌∙◌, arith}
use Rattle.std.specs.List.{range_with_len}
use Rattle.std.proofs.lemmas.Option.{slice_get-map, slice_get_past}
use Rattle.std.proofs.Math.Path.{fun_ext}
use Rattle.ec_logic.specs.Signature.{Signature}
use Rattle.ec_logic.specs.Universe.{Universe, universe_of, extent_at, row_of, tuples, tuple_at, tuple_rank, before, symbol_at, place_of}
use Rattle.ec_logic.proofs.Extents.{extents_length}
use Rattle.ec_atom.specs.declared.table.Values.{Values}
use Rattle.ec_atom.specs.declared.blocks.Argument.{Argument}
use Rattle.ec_atom.specs.declared.blocks.Blocks.{Blocks}
use Rattle.ec_atom.specs.Table.{extent_of_values}
use Rattle.ec_atom.specs.Blocks.{universe_in, sorts_of, IsRow, AreSound, rows_in, AreBlocks, AreBlocksOf, number_in, application_at, Application}
use Rattle.ec_atom.specs.Numbering.{AreTables}

-- ---- universes with the same extents

module _ (u v : Universe) (same : (s : ℕ) → extent_at u s ≡ extent_at v s) where
  pub same_tuples : (ss : List ℕ) → tuples u ss ≡ tuples v ss
  same_tuples [] = refl
  same_tuples (s ∷ ss) = rw (same s, same_tuples ss) refl

  pub same_rank : (ss : List ℕ) (vs : List ℤ) → tuple_rank u ss vs ≡ tuple_rank v ss vs
  same_rank [] [] = refl
  same_rank [] (x ∷ vs) = refl
  same_rank (s ∷ ss) [] = refl
  same_rank (s ∷ ss) (x ∷ vs) = rw (same s, same_tuples ss, same_rank ss vs) refl

  same_tuple_at : (ss : List ℕ) (k : ℕ) → tuple_at u ss k ≡ tuple_at v ss k
  same_tuple_at [] k = refl
  same_tuple_at (s ∷ ss) k = rw (same s, same_tuples ss, same_tuple_at ss (k % tuples v ss)) refl

  pub same_before : (rows : List (List ℕ)) (k : ℕ) → before u rows k ≡ before v rows k
  same_before [] k = refl
  same_before (ss ∷ rows) zero = refl
  same_before (ss ∷ rows) (suc k) = rw (same_tuples ss, same_before rows k) refl

  same_symbol_at : (rows : List (List ℕ)) (k : ℕ) → symbol_at u rows k ≡ symbol_at v rows k
  same_symbol_at [] k = refl
  same_symbol_at (ss ∷ rows) k = rw (same_tuples ss, same_symbol_at rows (k - tuples v ss)) refl

  pub same_number : (rows : List (List ℕ)) (k : ℕ) (vs : List ℤ) → number_in u rows k vs ≡ number_in v rows k vs
  same_number rows k vs = rw (same_before rows k, same_rank (row_of rows k) vs) refl

  abbrev with_args : ℕ → List ℤ → Application
  with_args symbol vs = record { symbol = symbol; args = vs }

  pub same_application : (rows : List (List ℕ)) (k : ℕ) → application_at u rows k ≡ application_at v rows k
  same_application rows k = rw (same_symbol_at rows k) (by_symbol (symbol_at v rows k))
    where
      by_symbol : (found : ℕ × ℕ) → with_args found.0 (tuple_at u (row_of rows found.0) found.1) ≡ with_args found.0 (tuple_at v (row_of rows found.0) found.1)
      by_symbol found = ap (with_args found.0) (same_tuple_at (row_of rows found.0) found.1)

  same_row : (row : List Argument) → IsRow u row → IsRow v row
  same_row [] h = tt
  same_row (a ∷ row) h = (rw (same_tuples (sorts_of row)) at h.0, same_row row h.1)

  pub same_blocks : (blocks : Blocks) → AreBlocks u blocks → AreBlocks v blocks
  same_blocks blocks are = record {
    firsts = are.firsts ∙ ap (λ (f : ℕ → ℕ). map f (range_with_len 0 (length (rows_in blocks) + 1))) (fun_ext (same_before (rows_in blocks)));
    few = rw (same_before (rows_in blocks) (length (rows_in blocks))) at are.few;
    each = λ k row h. same_row row (are.each k row h);
  }

-- ---- a signature and its tables

module _ (signature : Signature) (tables : List Values) (are : AreTables signature tables) where
  pub sound : AreSound tables
  sound s values h = (are.each s values h).table

  pub same_extent : (s : ℕ) → extent_at (universe_of signature) s ≡ extent_at (universe_in tables) s
  same_extent s = cases (slice_get tables s) refl (slice_get-map extent_of_values tables s)
    where
      cases : (o : Option Values) → slice_get tables s ≡ o → slice_get (map extent_of_values tables) s ≡ option_map extent_of_values o → extent_at (universe_of signature) s ≡ extent_at (universe_in tables) s
      cases None f e =
          let c = are.count in
          let l = extents_length signature in
          let p = none_past tables s f in
          let past : slice_get (universe_of signature).extents s ≡ None = slice_get_past (universe_of signature).extents s (omega (arith, c, l, p)) in
          rw (past, e) refl
        where
          none_past : (ts : List Values) (k : ℕ) → slice_get ts k ≡ None → length ts ≤ k
          none_past [] k h = omega arith
          none_past (t ∷ ts) zero h = cc
          none_past (t ∷ ts) (suc k) h = omega (arith, none_past ts k h)
      cases (Some values) f e = rw e (sym (are.each s values f).extent_is)

  module _ (rows : List (List ℕ)) (blocks : Blocks) (blocks_are : AreBlocksOf (universe_of signature) rows blocks) where
    pub blocks_here : AreBlocks (universe_in tables) blocks
    blocks_here = same_blocks (universe_of signature) (universe_in tables) same_extent blocks blocks_are.blocks_are

    pub known_here : (k : ℕ) → k < length rows → k < length (rows_in blocks)
    known_here k h = rw blocks_are.rows_are h

    pub known_there : (k : ℕ) → k < length (rows_in blocks) → k < length rows
    known_there k h = rw blocks_are.rows_are at h

    pub within_here : (k : ℕ) (vs : List ℤ) → is_some (tuple_rank (universe_of signature) (row_of rows k) vs) ≡ true → is_some (tuple_rank (universe_in tables) (row_of (rows_in blocks) k) vs) ≡ true
    within_here k vs h = rw (blocks_are.rows_are, ← same_rank (universe_of signature) (universe_in tables) same_extent (row_of rows k) vs) h

    pub number_there : (k : ℕ) (vs : List ℤ) (o : Option ℕ) → number_in (universe_in tables) (rows_in blocks) k vs ≡ o → number_in (universe_of signature) rows k vs ≡ o
    number_there k vs o h = same_number (universe_of signature) (universe_in tables) same_extent rows k vs ∙ (rw blocks_are.rows_are at h)

    pub application_there : (k : ℕ) (a : Application) → a ≡ application_at (universe_in tables) (rows_in blocks) k → a ≡ application_at (universe_of signature) rows k
    application_there k a h = (rw blocks_are.rows_are at h) ∙ sym (same_application (universe_of signature) (universe_in tables) same_extent rows k)

    pub count_same : before (universe_in tables) (rows_in blocks) (length (rows_in blocks)) ≡ before (universe_of signature) rows (length rows)
    count_same = ap (λ rs. before (universe_in tables) rs (length rs)) blocks_are.rows_are ∙ sym (same_before (universe_of signature) (universe_in tables) same_extent rows (length rows))

-- ---- the place of an event or a fluent

pub place_is : (universe : Universe) (rows : List (List ℕ)) (symbol k : ℕ) (vs : List ℤ) → number_in universe rows symbol vs ≡ Some k → place_of universe rows symbol vs ≡ pos k
place_is universe rows symbol k vs h = cases (tuple_rank universe (row_of rows symbol) vs) refl h
  where
    cases : (o : Option ℕ) → tuple_rank universe (row_of rows symbol) vs ≡ o → option_map (λ j. before universe rows symbol + j) o ≡ Some k → place_of universe rows symbol vs ≡ pos k
    cases None e i = cc
    cases (Some j) e i = let same : before universe rows symbol + j ≡ k = cc in rw e (ap pos same)

pub rank_of_number : (universe : Universe) (rows : List (List ℕ)) (symbol k : ℕ) (vs : List ℤ) → number_in universe rows symbol vs ≡ Some k → is_some (tuple_rank universe (row_of rows symbol) vs) ≡ true
rank_of_number universe rows symbol k vs h = cases (tuple_rank universe (row_of rows symbol) vs) h
  where
    cases : (o : Option ℕ) → option_map (λ j. before universe rows symbol + j) o ≡ Some k → is_some o ≡ true
    cases None i = cc
    cases (Some j) i = refl
