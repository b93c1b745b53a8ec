-- The structures that truths of the numbers give.
use Rattle.std.proofs.Common.{◌≡◌, ℕ, ◌+◌, ◌<◌, Bool, true, false, List, ℤ, All, Option, Some, None, option_map, refl, ap, sym, ◌∙◌, arith}
use Rattle.std.proofs.lemmas.Bool.Decides.{nat_tests}
use Rattle.ec_logic.specs.Universe.{Universe, universe_of, row_of, tuple_rank}
use Rattle.ec_logic.specs.Truth.{IsStructure, IsTuple}
use Rattle.ec_logic.specs.Atom.{number_of, atoms_before, predicates_in_order}
use Rattle.ec_logic.specs.Theory.{Theory}
use Rattle.ec_logic.specs.ValidTheory.{IsValidTheory}
use Rattle.ec_logic.proofs.Tests.{test_cases}
use Rattle.ec_logic.proofs.Extents.{arguments_length}
use Rattle.ec_logic.proofs.FewAtoms.{six_predicates}
use Rattle.ec_grounding.specs.Folded.{Leaf, fixed, numbered, leaf_truth}
use Rattle.ec_grounding.specs.Grounded.{leaf_of, is_effect, settled, effect_scope, reading_of}
use Rattle.ec_grounding.specs.Models.{HasTruths, HasConstants, SupportsTuples, structure_read, ReadsModels, IsReadFromTruths}
use Rattle.ec_grounding.proofs.GroundModels.{gives_models, constants_right}
use Rattle.ec_grounding.proofs.KnownPredicates.{is_known, known_below}
use Rattle.ec_grounding.proofs.Readings.{chosen, rejected, plain_cases, reading-effect, reading-other}

effect_below : (p : ℕ) → is_effect p ≡ true → p < 6
effect_below p e = grind (arith, nat_tests, e)

module _ (theory : Theory) (valid : IsValidTheory theory) (v : ℕ → Bool) where
  abbrev universe : Universe
  universe = universe_of theory.signature

  known_reads : (p : ℕ) (vs : List ℤ) → is_known theory.signature p ≡ true → structure_read theory v p vs ≡ leaf_truth v (reading_of theory p vs)
  known_reads p vs e = chosen (is_known theory.signature p) (leaf_truth v (reading_of theory p vs)) false e

  unknown_reads : (p : ℕ) (vs : List ℤ) → is_known theory.signature p ≡ false → structure_read theory v p vs ≡ false
  unknown_reads p vs e = rejected (is_known theory.signature p) (leaf_truth v (reading_of theory p vs)) false e

  outside_reads : (p : ℕ) (vs : List ℤ) → number_of universe p vs ≡ None → reading_of theory p vs ≡ fixed false
  outside_reads p vs h = test_cases (reading_of theory p vs ≡ fixed false) (is_effect p)
      (λ t. reading-effect theory p vs t ∙ ap (λ (o : Option ℕ). settled (leaf_of o) (effect_scope theory p vs)) h)
      (λ t. reading-other theory p vs t ∙ ap leaf_of h)

  pub read_structure : IsStructure universe (structure_read theory v)
  read_structure p vs e = test_cases (IsTuple universe p vs) (is_known theory.signature p)
      (λ t. by_number t (number_of universe p vs) refl)
      (λ t. let none = unknown_reads p vs t in absurd cc)
    where
      by_rank : is_known theory.signature p ≡ true → (k : ℕ) (o : Option ℕ) → tuple_rank universe (row_of universe.predicates p) vs ≡ o → option_map (λ j. atoms_before universe (predicates_in_order universe) p + j) o ≡ Some k → IsTuple universe p vs
      by_rank t k None r h = absurd cc
      by_rank t k (Some j) r h = let low = known_below theory.signature p t in (omega (arith, low, arguments_length theory.signature.predicates), (j, r))

      by_number : is_known theory.signature p ≡ true → (o : Option ℕ) → number_of universe p vs ≡ o → IsTuple universe p vs
      by_number t None h =
          let read = known_reads p vs t in
          let none : leaf_truth v (reading_of theory p vs) ≡ false = ap (leaf_truth v) (outside_reads p vs h) in
          absurd cc
      by_number t (Some k) h = by_rank t k (tuple_rank universe (row_of universe.predicates p) vs) refl h

  pub read_truths : HasTruths theory (structure_read theory v) v
  read_truths p k vs low e =
      let known : is_known theory.signature p ≡ true = grind (arith, nat_tests, low) in
      sym (known_reads p vs known ∙ ap (leaf_truth v) e)

  pub read_constants : HasConstants theory (structure_read theory v)
  read_constants p vs b e = test_cases (structure_read theory v p vs ≡ b) (is_known theory.signature p)
      (λ t. known_reads p vs t ∙ ap (leaf_truth v) e)
      (λ t. test_cases (structure_read theory v p vs ≡ b) (is_effect p)
      (λ s.
      let low = effect_below p s in
      let six = six_predicates theory.signature valid.signature in
      let all = arguments_length theory.signature.predicates in
      let known : is_known theory.signature p ≡ true = grind (arith, nat_tests, low, six, all) in
      absurd cc)
      (λ s. plain_cases (structure_read theory v p vs ≡ b) (number_of universe p vs) b (λ none is. unknown_reads p vs t ∙ sym is) (sym (reading-other theory p vs s) ∙ e)))

module _ (theory : Theory) (valid : IsValidTheory theory) where
  pub reads_models : All (SupportsTuples (universe_of theory.signature)) theory.groups → ReadsModels theory
  reads_models tuples v =
      let law = gives_models theory valid tuples (structure_read theory v) v (read_structure theory valid v) (read_truths theory valid v) in
      (λ completed. (law.0 completed).1, λ model. law.1 (read_constants theory valid v, model))

  pub read_from_truths : IsReadFromTruths theory
  read_from_truths m v completed truths p vs = test_cases (m p vs ≡ structure_read theory v p vs) (is_known theory.signature p)
      (λ t. by_leaf t (reading_of theory p vs) refl ∙ sym (known_reads theory valid v p vs t))
      (λ t. unknown t ∙ sym (unknown_reads theory valid v p vs t))
    where
      by_leaf : is_known theory.signature p ≡ true → (leaf : Leaf) → reading_of theory p vs ≡ leaf → m p vs ≡ leaf_truth v leaf
      by_leaf t (fixed b) e = constants_right theory valid m v completed.structure truths completed p vs b e
      by_leaf t (numbered k) e = sym (truths p k vs (known_below theory.signature p t) e)

      unknown : is_known theory.signature p ≡ false → m p vs ≡ false
      unknown t = test_cases (m p vs ≡ false) (m p vs)
          (λ s.
          let there = completed.structure p vs s in
          let low = there.0 in
          let all = arguments_length theory.signature.predicates in
          let known : is_known theory.signature p ≡ true = grind (arith, nat_tests, low, all) in
          absurd cc)
          (λ s. s)
