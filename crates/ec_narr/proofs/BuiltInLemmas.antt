-- The argument sorts of the built-in predicates, and the extent of time.
use Rattle.std.proofs.Common.{◌≡◌, ℕ, zero, suc, ◌<◌, true, List, [], ◌∷◌, ◌++◌, take, drop, take-append-drop, slice_get, unwrap_or, option_map, refl, sym, ap, ◌∙◌, arith}
use Rattle.std.proofs.lemmas.Option.{slice_get-map}
use Rattle.ec_logic.specs.BuiltIn.{built_in_predicates, built_in_sorts}
use Rattle.ec_logic.specs.Signature.{Signature, SymbolRow, integer_sort, time_sort}
use Rattle.ec_logic.specs.Universe.{universe_of, extent_at, extent_of_range, row_of}
use Rattle.ec_logic.specs.Valid.{IsSignature, is_integer_sort, range_of}
use Rattle.ec_logic.proofs.Extents.{extent_integer}

in_front : {X : Type 0} (rows : List X) (n k : ℕ) → k < n → slice_get (take n rows) k ≡ slice_get rows k
in_front rows zero k h = absurd (omega (arith, h))
in_front [] (suc n) k h = refl
in_front (row ∷ rows) (suc n) zero h = refl
in_front (row ∷ rows) (suc n) (suc k) h = in_front rows n k (omega (arith, h))

module _ (signature : Signature) (valid : IsSignature signature) where
  pub built_in_row : (k : ℕ) → k < 6 → row_of (universe_of signature).predicates k ≡ unwrap_or (option_map (λ (row : SymbolRow). row.sorts) (slice_get built_in_predicates k)) []
  built_in_row k h =
      let front = in_front signature.predicates 6 k h in
      rw (slice_get-map (λ (row : SymbolRow). row.sorts) signature.predicates k, ← front, valid.built_in_first.predicates) refl

  first_sorts : signature.sorts ≡ built_in_sorts (range_of signature integer_sort) (range_of signature time_sort) (range_of signature 3) ++ drop 6 signature.sorts
  first_sorts = sym (take-append-drop 6 signature.sorts) ∙ ap (λ rows. rows ++ drop 6 signature.sorts) valid.built_in_first.sorts

  time_is_integer : is_integer_sort signature time_sort ≡ true
  time_is_integer = rw first_sorts refl

  pub time_extent : extent_at (universe_of signature) time_sort ≡ extent_of_range (range_of signature time_sort)
  time_extent = extent_integer signature time_sort time_is_integer
