-- The symbols in the order of their applications.
use Rattle.std.proofs.Common.{◌≡◌, ℕ, zero, suc, ◌+◌, ◌<◌, ◌≤◌, List, [], ◌∷◌, length, map, take, get_or, slice_get, is_some, true, ℤ, unwrap_or, Option, Some, None, option_map, refl, sym, ap, ◌∙◌, arith}
use Rattle.std.proofs.lemmas.Option.{slice_get-map, slice_get-get_or}
use Rattle.ec_logic.specs.Signature.{Signature, SymbolRow}
use Rattle.ec_logic.specs.Universe.{Universe, universe_of, argument_sorts, row_of, tuples, tuple_rank, before}
use Rattle.ec_logic.specs.Atom.{predicates_in_order, atoms_before, number_of, all_atoms}
use Rattle.ec_logic.proofs.Numbering.{all_count}
use Rattle.ec_atom.specs.Blocks.{number_in}
use Rattle.ec_atom.proofs.AtomLaws.{predicate_known, place_again, predicate_again, place_known}
use Rattle.ec_logic.specs.Total.{total}
use Rattle.ec_logic.proofs.AtomOrder.{order_at, order_length, predicate_at, place_in_order, first_is, total_all}
use Rattle.ec_logic.proofs.Extents.{arguments_length}
use Rattle.ec_atom.specs.declared.kinds.Symbols.TheVariants.{Predicates}
use Rattle.ec_atom.specs.Symbols.{rows_of}

pub row_at : (rows : List SymbolRow) (k : ℕ) (sorts : List ℕ) → option_map (λ (row : SymbolRow). row.sorts) (slice_get rows k) ≡ Some sorts → slice_get (argument_sorts rows) k ≡ Some sorts
row_at rows k sorts h = slice_get-map (λ (row : SymbolRow). row.sorts) rows k ∙ h

length_mapped : (f : ℕ → List ℕ) (qs : List ℕ) → length (map f qs) ≡ length qs
length_mapped f [] = refl
length_mapped f (q ∷ qs) = ap suc (length_mapped f qs)

-- what stands before a place of some predicates
pub before_total : (universe : Universe) (qs : List ℕ) (i : ℕ) → before universe (map (row_of universe.predicates) qs) i ≡ total universe (take i qs)
before_total universe [] zero = refl
before_total universe [] (suc i) = refl
before_total universe (q ∷ qs) zero = refl
before_total universe (q ∷ qs) (suc i) = ap (λ n. tuples universe (row_of universe.predicates q) + n) (before_total universe qs i)

module _ (signature : Signature) (many : 6 ≤ length signature.predicates) where
  abbrev universe : Universe
  universe = universe_of signature

  same_count : length universe.predicates ≡ length signature.predicates
  same_count = arguments_length signature.predicates

  many_there : 6 ≤ length universe.predicates
  many_there = let s = same_count in omega (arith, s, many)

  pub predicates_count : length (rows_of universe Predicates) ≡ length signature.predicates
  predicates_count = length_mapped (row_of universe.predicates) (predicates_in_order universe) ∙ (order_length universe many_there ∙ same_count)

  -- the row at a place of the order is that of the predicate there
  pub row_in_order : (place : ℕ) → place < length signature.predicates → slice_get (rows_of universe Predicates) place ≡ Some (row_of universe.predicates (predicate_at (length signature.predicates) place))
  row_in_order place h =
      let s = same_count in
      let o = order_length universe many_there in
      let low : place < length (predicates_in_order universe) = omega (arith, h, s, o) in
      let at : get_or (predicates_in_order universe) place 0 ≡ predicate_at (length signature.predicates) place = order_at universe many_there place (omega (arith, h, s)) ∙ ap (λ n. predicate_at n place) s in
      slice_get-map (row_of universe.predicates) (predicates_in_order universe) place
      ∙ (ap (option_map (row_of universe.predicates)) (slice_get-get_or (predicates_in_order universe) place 0 low) ∙ ap (λ p. Some (row_of universe.predicates p)) at)

  pub sorts_in_order : (place : ℕ) (sorts : List ℕ) → place < length signature.predicates → option_map (λ (row : SymbolRow). row.sorts) (slice_get signature.predicates (predicate_at (length signature.predicates) place)) ≡ Some sorts
      → slice_get (rows_of universe Predicates) place ≡ Some sorts
  sorts_in_order place sorts h e = row_in_order place h ∙ ap Some (ap (λ o. unwrap_or o []) (row_at signature.predicates (predicate_at (length signature.predicates) place) sorts e))

  -- the number of an atom is that of its predicate at its place of the order
  pub number_at_place : (place : ℕ) (vs : List ℤ) (o : Option ℕ) → place < length signature.predicates → number_in universe (rows_of universe Predicates) place vs ≡ o → number_of universe (predicate_at (length signature.predicates) place) vs ≡ o
  number_at_place place vs o h e =
      let s = same_count in
      let p = predicate_at (length signature.predicates) place in
      let known : p < length universe.predicates = rw s (predicate_known (length signature.predicates) place many h) in
      let row : row_of (rows_of universe Predicates) place ≡ row_of universe.predicates p = ap (λ x. unwrap_or x []) (row_in_order place h) in
      let first : atoms_before universe (predicates_in_order universe) p ≡ before universe (rows_of universe Predicates) place =
      first_is universe many_there p known ∙ (ap (λ n. total universe (take (place_in_order n p) (predicates_in_order universe))) s
      ∙ (ap (λ j. total universe (take j (predicates_in_order universe))) (place_again (length signature.predicates) place many h) ∙ sym (before_total universe (predicates_in_order universe) place))) in
      ap (λ b. option_map (λ k. b + k) (tuple_rank universe (row_of universe.predicates p) vs)) first
      ∙ (ap (λ ss. option_map (λ k. before universe (rows_of universe Predicates) place + k) (tuple_rank universe ss vs)) (sym row) ∙ e)

  pub number_of_predicate : (p : ℕ) (vs : List ℤ) (o : Option ℕ) → p < length signature.predicates → number_in universe (rows_of universe Predicates) (place_in_order (length signature.predicates) p) vs ≡ o → number_of universe p vs ≡ o
  number_of_predicate p vs o h e =
      let n = length signature.predicates in
      let again = predicate_again n p many h in
      ap (λ q. number_of universe q vs) (sym again) ∙ number_at_place (place_in_order n p) vs o (place_known n p many h) e

  pub row_of_predicate : (p : ℕ) → p < length signature.predicates → row_of (rows_of universe Predicates) (place_in_order (length signature.predicates) p) ≡ row_of universe.predicates p
  row_of_predicate p h =
      let n = length signature.predicates in
      ap (λ x. unwrap_or x []) (row_in_order (place_in_order n p) (place_known n p many h)) ∙ ap (λ q. row_of universe.predicates q) (predicate_again n p many h)

  pub all_before : before universe (rows_of universe Predicates) (length (rows_of universe Predicates)) ≡ length (all_atoms universe)
  all_before =
      before_total universe (predicates_in_order universe) (length (rows_of universe Predicates))
      ∙ (ap (λ k. total universe (take k (predicates_in_order universe))) (predicates_count ∙ sym same_count) ∙ (total_all universe many_there ∙ sym (all_count universe)))

pub rank_there : (universe : Universe) (p k : ℕ) (vs : List ℤ) → number_of universe p vs ≡ Some k → is_some (tuple_rank universe (row_of universe.predicates p) vs) ≡ true
rank_there universe p k vs h = cases (tuple_rank universe (row_of universe.predicates p) vs) h
  where
    cases : (o : Option ℕ) → option_map (λ j. atoms_before universe (predicates_in_order universe) p + j) o ≡ Some k → is_some o ≡ true
    cases None i = cc
    cases (Some j) i = refl
