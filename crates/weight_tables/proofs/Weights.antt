-- Weights of small theories, worked out by hand. A weight is told up to 2^62.
use Rattle.std.proofs.Common.{◌≡◌, ℕ, ◌+◌, ◌*◌, ◌^◌, min, true, false, [], ◌∷◌, pos, refl, ap, ◌∙◌}
use Rattle.ec_logic.specs.Tree.{Formula, atom, variable, term, no_terms, implies, all_of, for_all, formula, no_formulas}
use Rattle.ec_logic.specs.TreeList.{formulas_of}
use Rattle.ec_logic.specs.Signature.{Signature}
use Rattle.ec_logic.specs.Extent.{numbers, passing}
use Rattle.ec_logic.specs.Universe.{Universe, universe_of, universe_with}
use Rattle.ec_logic.specs.Axiom.{dec_axioms, release_axioms}
use Rattle.ec_logic.specs.Theory.{Group, Theory}
use Rattle.ec_weight.specs.Weight.{weight_of, weights, group_weights}
use Rattle.theory_tables.specs.Samples.{small, wide, ranged}
use Rattle.theory_tables.proofs.WideSizes.{passing_all, so_many}

abbrev told : Theory → ℕ
told theory = min (weight_of theory) (2 ^ 62)

-- ---- the axioms alone

abbrev bare : Signature → Theory
bare signature = record { signature = signature; remaining = []; groups = [] }

-- Seven events, eight fluents and three times: DEC5 to DEC12 weigh 705, 753, 993, 705, 904, 1072, 904 and 1408, and the release axioms
-- 7, 18 and 2, where only that of the noninertial fluent is left under manual release.
released-by-law : told (bare (small false)) ≡ 7444 + 7 + 18 + 2
released-by-law = refl

released-by-hand : told (bare (small true)) ≡ 7444 + 18
released-by-hand = refl

-- ---- an event with more than 2^62 ground terms

-- what the axioms weigh, beside no sentence and no group
abbrev axioms_in : Signature → Universe → ℕ
axioms_in signature universe =
    weights universe no_formulas + group_weights universe [] + (weights universe (formulas_of dec_axioms) + weights universe (formulas_of (release_axioms signature)))

axioms-alone : (signature : Signature) → told (bare signature) ≡ min (axioms_in signature (universe_of signature)) (2 ^ 62)
axioms-alone signature = refl

-- a universe of sizes alone, with so many events and fluents
abbrev sized : ℕ → ℕ → Universe
sized events fluents = record {
  extents = numbers (pos 0) 0 ∷ numbers (pos 0) 0 ∷ numbers (pos 0) 2 ∷ numbers (pos 0) 0 ∷ numbers (pos 0) events ∷ numbers (pos 0) fluents ∷ numbers (pos 0) 2000001 ∷ [];
  events = [];
  fluents = [];
  predicates = [];
}

sizes-alone : (n m : ℕ) → axioms_in wide (universe_with wide n m) ≡ axioms_in wide (sized n m)
sizes-alone n m = counted ∙ ap (λ e. axioms_in wide (sized e (passing (λ k. true) 0 m))) (passing_all 0 n) ∙ ap (λ f. axioms_in wide (sized n f)) (passing_all 0 m)
  where
    counted : axioms_in wide (universe_with wide n m) ≡ axioms_in wide (sized (passing (λ k. true) 0 n) (passing (λ k. true) 0 m))
    counted = refl

beyond : told (bare wide) ≡ 2 ^ 62
beyond = axioms-alone wide ∙ ap (λ universe. min (axioms_in wide universe) (2 ^ 62)) so_many ∙ ap (λ n. min n (2 ^ 62)) (sizes-alone 8000012000006000001 4000004000001)

-- ---- sentences over the numbers from 1 to 2000: where there is no event, DEC5 to DEC12 weigh 1 each

abbrev Marked : ℕ → Formula
Marked k = atom 6 (term (variable k) no_terms)

-- P(x) -> P(y) for all x and y
abbrev each_to_each : Formula
each_to_each = for_all 6 (for_all 6 (implies (Marked 1) (Marked 0)))

remaining-sentence : told (record { signature = ranged (pos 1, pos 2000); remaining = each_to_each ∷ []; groups = [] }) ≡ 8 + (1 + 2000 * (1 + 2000 * 3))
remaining-sentence = refl

-- P(x) -> P(x) & P(x) for all x: in a group the body is copied to both heads
abbrev each_to_both : Formula
each_to_both = for_all 6 (implies (Marked 0) (all_of (formula (Marked 0) (formula (Marked 0) no_formulas))))

abbrev marks : Group
marks = record { predicates = 6 ∷ []; sentences = each_to_both ∷ [] }

group-sentence : told (record { signature = ranged (pos 1, pos 2000); remaining = []; groups = marks ∷ [] }) ≡ 8 + (1 + 2000 * (1 + 2 * 1 + 3))
group-sentence = refl
