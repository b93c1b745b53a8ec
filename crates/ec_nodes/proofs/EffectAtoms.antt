-- The effect atoms are fewer than what the axioms weigh.
use Rattle.std.proofs.Common.{◌≡◌, ℕ, zero, suc, ◌+◌, ◌*◌, ◌<◌, ◌≤◌, List, [], ◌∷◌, length, take, slice_get, unwrap_or, option_map, refl, ap, arith, mul-le-mul_left}
use Rattle.std.proofs.lemmas.Option.{slice_get-map}
use Rattle.ec_logic.specs.TreeList.{formulas_of}
use Rattle.ec_logic.specs.Signature.{Signature, SymbolRow, time_sort, event_sort, fluent_sort}
use Rattle.ec_logic.specs.BuiltIn.{built_in_predicates}
use Rattle.ec_logic.specs.Universe.{Universe, universe_of, row_of, tuples}
use Rattle.ec_logic.specs.Atom.{tuples_of, visible_atoms, all_atoms, visible_predicates}
use Rattle.ec_logic.specs.Axiom.{dec_axioms, DEC9}
use Rattle.ec_logic.specs.Valid.{IsSignature}
use Rattle.ec_logic.proofs.Numbering.{total-append, visible_count, all_count}
use Rattle.ec_weight.specs.Weight.{size, weight, weights}

-- the atoms of three predicates over events, fluents and times weigh less than one axiom over them
few_effects : (e f t : ℕ) → 3 * (e * (f * (t * 1))) ≤ 1 + e * (1 + f * (1 + t * 5))
few_effects e f t =
    let times : t * 5 ≤ 1 + t * 5 = omega arith in
    let fluents : f * (t * 5) ≤ f * (1 + t * 5) = mul-le-mul_left f times in
    let each : f * (t * 5) ≤ 1 + f * (1 + t * 5) = omega (arith, fluents) in
    let events : e * (f * (t * 5)) ≤ e * (1 + f * (1 + t * 5)) = mul-le-mul_left e each in
    let five : e * (f * (t * 5)) ≡ 5 * (e * (f * (t * 1))) = omega arith in
    omega (arith, events, five)

module _ (signature : Signature) (valid : IsSignature signature) where
  abbrev over : Universe
  over = universe_of signature

  in_front : (rows : List SymbolRow) (n k : ℕ) → k < n → slice_get (take n rows) k ≡ slice_get rows k
  in_front rows zero k h = absurd (omega (arith, h))
  in_front [] (suc n) k h = refl
  in_front (row ∷ rows) (suc n) zero h = refl
  in_front (row ∷ rows) (suc n) (suc k) h = in_front rows n k (omega (arith, h))

  built_in_row : (k : ℕ) → k < 6 → row_of over.predicates k ≡ unwrap_or (option_map (λ (row : SymbolRow). row.sorts) (slice_get built_in_predicates k)) []
  built_in_row k h =
      let front = in_front signature.predicates 6 k h in
      rw (slice_get-map (λ (row : SymbolRow). row.sorts) signature.predicates k, ← front, valid.built_in_first.predicates) refl

  abbrev effect_count : ℕ
  effect_count = size over event_sort * (size over fluent_sort * (size over time_sort * 1))

  initiates_count : tuples_of over 3 ≡ effect_count
  initiates_count = ap (tuples over) (built_in_row 3 (omega arith))

  terminates_count : tuples_of over 4 ≡ effect_count
  terminates_count = ap (tuples over) (built_in_row 4 (omega arith))

  releases_count : tuples_of over 5 ≡ effect_count
  releases_count = ap (tuples over) (built_in_row 5 (omega arith))

  axiom_weight : weight over DEC9 ≡ 1 + size over event_sort * (1 + size over fluent_sort * (1 + size over time_sort * 5))
  axiom_weight = refl

  one_of_axioms : weight over DEC9 ≤ weights over (formulas_of dec_axioms)
  one_of_axioms = omega arith

  pub all_atoms_few : length (all_atoms over) ≤ length (visible_atoms over) + weights over (formulas_of dec_axioms)
  all_atoms_few =
      let all = all_count over in
      let visible = visible_count over in
      let parts = total-append over (visible_predicates over) (3 ∷ 4 ∷ 5 ∷ []) in
      let x = initiates_count in
      let y = terminates_count in
      let z = releases_count in
      let few = few_effects (size over event_sort) (size over fluent_sort) (size over time_sort) in
      let is = axiom_weight in
      let among = one_of_axioms in
      omega (arith, all, visible, parts, x, y, z, few, is, among)
