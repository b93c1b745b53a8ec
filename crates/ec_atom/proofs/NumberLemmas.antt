-- Atoms counted place by place.
use Rattle.std.proofs.Common.{◌≡◌, ℕ, suc, ◌+◌, ◌-◌, ◌<◌, ◌≤◌, ◌^◌, min, List, [], ◌∷◌, ◌++◌, length, map, take, get_or, slice_get, unwrap_or, Some, option_map, refl, sym, ap, ◌∙◌, arith}
use Rattle.std.specs.List.{range_with_len}
use Rattle.std.proofs.lemmas.Option.{slice_get-map}
use Rattle.std.proofs.lemmas.List.FromFn.{map-range_with_len_more, get_or-map-range_with_len, length-map-range_with_len}
use Rattle.ec_logic.specs.Signature.{Signature, SymbolRow}
use Rattle.ec_logic.specs.Universe.{Universe, universe_of, argument_sorts, tuples}
use Rattle.ec_logic.specs.Atom.{all_atoms, atoms_before, visible_atoms, tuples_of, predicates_in_order, visible_predicates}
use Rattle.ec_logic.specs.Total.{total}
use Rattle.ec_logic.proofs.Numbering.{visible_count, all_count}
use Rattle.ec_logic.proofs.AtomOrder.{first_is, place_in_order, predicate_at, total_next, total_within, total_all, total_visible}

-- the argument sorts of a predicate
pub row_is : (signature : Signature) (p : ℕ) (sorts : List ℕ) → option_map (λ (row : SymbolRow). row.sorts) (slice_get signature.predicates p) ≡ Some sorts → tuples_of (universe_of signature) p ≡ tuples (universe_of signature) sorts
row_is signature p sorts h = ap (λ o. tuples (universe_of signature) (unwrap_or o [])) (slice_get-map (λ (row : SymbolRow). row.sorts) signature.predicates p ∙ h)

predicates_count : (signature : Signature) → length (universe_of signature).predicates ≡ length signature.predicates
predicates_count signature = count signature.predicates
  where
    count : (rows : List SymbolRow) → length (argument_sorts rows) ≡ length rows
    count [] = refl
    count (row ∷ rows) = ap suc (count rows)

module _ (signature : Signature) (many : 6 ≤ length signature.predicates) where
  abbrev universe : Universe
  universe = universe_of signature

  abbrev n : ℕ
  n = length signature.predicates

  abbrev order : List ℕ
  order = predicates_in_order universe

  many_there : 6 ≤ length universe.predicates
  many_there = rw (predicates_count signature) many

  next : (i : ℕ) → i < n → total universe (take (i + 1) order) ≡ total universe (take i order) + tuples_of universe (predicate_at n i)
  next i h = total_next universe many_there i (rw (predicates_count signature) h) ∙ ap (λ m. total universe (take i order) + tuples_of universe (predicate_at m i)) (predicates_count signature)

  pub visible_next : (i sum more : ℕ) → i < n - 3 → sum ≡ min (total universe (take i order)) (2 ^ 62) → more ≡ min (tuples_of universe (predicate_at n i)) (2 ^ 62) → min (sum + more) (2 ^ 62) ≡ min (total universe (take (i + 1) order)) (2 ^ 62)
  visible_next i sum more h s m = let t = next i (omega arith) in omega (arith, t, s, m)

  pub visible_end : (i : ℕ) → i ≡ n - 3 → total universe (take i order) ≡ total universe (visible_predicates universe)
  visible_end i e = ap (λ k. total universe (take k order)) (e ∙ ap (λ k. k - 3) (sym (predicates_count signature))) ∙ total_visible universe many_there

  pub total_step : (i sum more : ℕ) → i < n → total universe order < 2 ^ 62 → sum ≡ total universe (take i order) → more ≡ min (tuples_of universe (predicate_at n i)) (2 ^ 62) → (sum + more ≡ total universe (take (i + 1) order)) × (sum + more < 2 ^ 62)
  total_step i sum more h few s m =
      let t = next i h in
      let w = total_within universe many_there (i + 1) in
      (omega (arith, t, w, s, m, few), omega (arith, t, w, s, m, few))

  pub first_next : (firsts : List ℕ) (i sum : ℕ) → firsts ≡ map (λ k. total universe (take k order)) (range_with_len 0 (i + 1)) → sum ≡ total universe (take (i + 1) order) → firsts ++ sum ∷ [] ≡ map (λ k. total universe (take k order)) (range_with_len 0 (i + 1 + 1))
  first_next firsts i sum e s = ap (λ xs. xs ++ sum ∷ []) e ∙ (ap (λ x. map (λ k. total universe (take k order)) (range_with_len 0 (i + 1)) ++ x ∷ []) s ∙ sym (map-range_with_len_more (λ k. total universe (take k order)) 0 (i + 1) (i + 1) (omega arith)))

  -- ---- what the table of first numbers has

  pub visible_in_order : total universe (take (n - 3) order) ≡ length (visible_atoms universe)
  visible_in_order = visible_end (n - 3) refl ∙ sym (visible_count universe)

  pub all_in_order : total universe (take n order) ≡ length (all_atoms universe)
  all_in_order = ap (λ k. total universe (take k order)) (sym (predicates_count signature)) ∙ (total_all universe many_there ∙ sym (all_count universe))

  pub first_in_order : (p : ℕ) → p < n → total universe (take (place_in_order n p) order) ≡ atoms_before universe order p
  first_in_order p h = ap (λ k. total universe (take (place_in_order k p) order)) (sym (predicates_count signature)) ∙ sym (first_is universe many_there p (rw (predicates_count signature) h))

pub entry_is : (signature : Signature) (firsts : List ℕ) (i x : ℕ) → firsts ≡ map (λ k. total (universe_of signature) (take k (predicates_in_order (universe_of signature)))) (range_with_len 0 (length signature.predicates + 1)) → i ≤ length signature.predicates → x ≡ get_or firsts i x → x ≡ total (universe_of signature) (take i (predicates_in_order (universe_of signature)))
entry_is signature firsts i x e h g = g ∙ (ap (λ xs. get_or xs i x) e ∙ get_or-map-range_with_len (λ k. total (universe_of signature) (take k (predicates_in_order (universe_of signature)))) 0 (length signature.predicates + 1) i i x (omega (arith, h)) (omega arith))

pub entries : (signature : Signature) (firsts : List ℕ) → firsts ≡ map (λ k. total (universe_of signature) (take k (predicates_in_order (universe_of signature)))) (range_with_len 0 (length signature.predicates + 1)) → length firsts ≡ length signature.predicates + 1
entries signature firsts e = ap length e ∙ length-map-range_with_len (λ k. total (universe_of signature) (take k (predicates_in_order (universe_of signature)))) 0 (length signature.predicates + 1)
