-- What speaks of no effect is as true in a structure as in each minimal model with its visible truth.
use Rattle.std.proofs.Common.{◌≡◌, ℕ, suc, Bool, true, false, ◌&&◌, List, [], ◌∷◌, ◌++◌, take, length, All, refl}
use Rattle.std.specs.List.{AllByRecursion, list_all}
use Rattle.ec_logic.specs.Tree.{Formula, atom, variable, int, fluent, term, no_terms, negation, for_all}
use Rattle.ec_logic.specs.Signature.{Signature, SymbolRow, time_sort, released_at}
use Rattle.ec_logic.specs.Universe.{Universe, universe_of}
use Rattle.ec_logic.specs.Truth.{Structure, truth}
use Rattle.ec_logic.specs.Atom.{visible_atoms, all_atoms, visible_truth, structure_of}
use Rattle.ec_logic.specs.Axiom.{for_each, variables_from, first_time, always_released, not_released_first, release_axiom, release_axioms_from, release_axioms}
use Rattle.ec_logic.specs.Theory.{Theory, all_hold}
use Rattle.ec_logic.specs.Minimal.{IsMinimalModel}
use Rattle.ec_logic.specs.Listing.{IsTruth}
use Rattle.ec_logic.specs.ValidTheory.{IsValidTheory}
use Rattle.ec_logic.proofs.Agreeing.{truth_agrees}
use Rattle.ec_logic.proofs.FewAtoms.{six_predicates}
use Rattle.ec_logic.proofs.Minimality.{all_head, all_tail}
use Rattle.ec_logic.proofs.Tests.{and_parts, not_true, test_cases}
use Rattle.ec_models.specs.Early.{is_effect, is_no_effect, speaks_of_no_effect, early_of}
use Rattle.ec_models.proofs.VisibleParts.{same_but_effects}

pub all_by_recursion : {X : Type 0} (P : X → Type 0) (xs : List X) → All P xs → AllByRecursion P xs
all_by_recursion P [] h = tt
all_by_recursion P (x ∷ xs) h = (all_head P x xs h, all_by_recursion P xs (all_tail P x xs h))

and_true : {a b : Bool} → a ≡ true → b ≡ true → (a && b) ≡ true
and_true g h = rw (g, h) refl

-- ---- those of some formulas that speak of no effect

pub early_each : (P : Formula → Type 0) (fs : List Formula) → AllByRecursion P fs → AllByRecursion P (early_of fs)
early_each P [] h = tt
early_each P (f ∷ fs) h = test_cases (AllByRecursion P (early_of (f ∷ fs))) (speaks_of_no_effect f) (λ e. rw e (h.0, early_each P fs h.1)) (λ e. rw e (early_each P fs h.1))

early_free : (fs : List Formula) → list_all speaks_of_no_effect (early_of fs) ≡ true
early_free [] = refl
early_free (f ∷ fs) = test_cases (list_all speaks_of_no_effect (early_of (f ∷ fs)) ≡ true) (speaks_of_no_effect f) (λ e. rw e (and_true e (early_free fs))) (λ e. rw e (early_free fs))

early_true : (universe : Universe) (m : Structure) (fs : List Formula) → all_hold universe m fs ≡ true → all_hold universe m (early_of fs) ≡ true
early_true universe m [] h = refl
early_true universe m (f ∷ fs) h =
    let both = and_parts (truth universe m [] f) (all_hold universe m fs) h in
    let rest = early_true universe m fs both.1 in
    test_cases (all_hold universe m (early_of (f ∷ fs)) ≡ true) (speaks_of_no_effect f) (λ e. rw e (and_true both.0 rest)) (λ e. rw e rest)

-- ---- the release axioms speak of no effect

for_each_free : (ss : List ℕ) (f : Formula) → speaks_of_no_effect f ≡ true → speaks_of_no_effect (for_each ss f) ≡ true
for_each_free [] f h = h
for_each_free (s ∷ ss) f h = for_each_free ss f h

always_free : (number : ℕ) (row : SymbolRow) → speaks_of_no_effect (always_released number row) ≡ true
always_free number row = for_each_free row.sorts (for_all time_sort (atom released_at (term (fluent number (variables_from 1 (length row.sorts))) (term (variable 0) no_terms)))) refl

first_free : (signature : Signature) (number : ℕ) (row : SymbolRow) → speaks_of_no_effect (not_released_first signature number row) ≡ true
first_free signature number row = for_each_free row.sorts (negation (atom released_at (term (fluent number (variables_from 0 (length row.sorts))) (term (int (first_time signature)) no_terms)))) refl

one_free : (signature : Signature) (number : ℕ) (row : SymbolRow) (rest : List Formula) (noninertial manual : Bool) → list_all speaks_of_no_effect rest ≡ true → list_all speaks_of_no_effect (release_axiom signature number row noninertial manual ++ rest) ≡ true
one_free signature number row rest true manual h = and_true (always_free number row) h
one_free signature number row rest false true h = h
one_free signature number row rest false false h = and_true (first_free signature number row) h

release_free : (signature : Signature) (number : ℕ) (rows : List SymbolRow) → list_all speaks_of_no_effect (release_axioms_from signature number rows) ≡ true
release_free signature number [] = refl
release_free signature number (row ∷ rows) =
    let rest = release_axioms_from signature (suc number) rows in
    one_free signature number row rest row.noninertial signature.manual_release (release_free signature (suc number) rows)

-- ---- what minimal models say of a structure with their visible truth

module _ (theory : Theory) (valid : IsValidTheory theory) (bits : List Bool) (size : length bits ≡ length (all_atoms (universe_of theory.signature))) where
  abbrev universe : Universe
  universe = universe_of theory.signature

  abbrev front : List Bool
  front = take (length (visible_atoms universe)) bits

  module _ (m : Structure) (model : IsMinimalModel theory m) (visible : visible_truth universe m ≡ front) where
    same_truth : (f : Formula) → speaks_of_no_effect f ≡ true → truth universe m [] f ≡ truth universe (structure_of universe bits) [] f
    same_truth f h =
        let many = six_predicates theory.signature valid.signature in
        truth_agrees universe m (structure_of universe bits) is_no_effect (λ p vs e. same_but_effects universe many m model.structure bits size visible p vs (not_true (is_effect p) e)) [] f h

    same_truths : (fs : List Formula) → list_all speaks_of_no_effect fs ≡ true → all_hold universe m fs ≡ all_hold universe (structure_of universe bits) fs
    same_truths [] h = refl
    same_truths (f ∷ fs) h =
        let both = and_parts (speaks_of_no_effect f) (list_all speaks_of_no_effect fs) h in
        rw (same_truth f both.0, same_truths fs both.1) refl

  untrue : (fs : List Formula) → list_all speaks_of_no_effect fs ≡ true → ((m : Structure) → IsMinimalModel theory m → all_hold universe m fs ≡ true) → all_hold universe (structure_of universe bits) fs ≡ false → IsTruth theory front → ⊥
  untrue fs free held other is =
      let here = held is.0 is.1 in
      let same = same_truths is.0 is.1 is.2 fs free in
      cc

  -- where a release axiom is false
  pub release_untrue : all_hold universe (structure_of universe bits) (release_axioms theory.signature) ≡ false → IsTruth theory front → ⊥
  release_untrue = untrue (release_axioms theory.signature) (release_free theory.signature 0 theory.signature.fluents) (λ m model. model.release)

  -- where a remaining sentence that speaks of no effect is false
  pub sentence_untrue : all_hold universe (structure_of universe bits) (early_of theory.remaining) ≡ false → IsTruth theory front → ⊥
  sentence_untrue = untrue (early_of theory.remaining) (early_free theory.remaining) (λ m model. early_true universe m theory.remaining model.remaining)
