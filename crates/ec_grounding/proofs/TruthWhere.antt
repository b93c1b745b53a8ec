-- Truth of folds and of trees of atoms, where the reading gives the atoms of the predicates that occur their truths.
use Rattle.std.proofs.Common.{◌≡◌, ℕ, Bool, true, ◌&&◌, List, [], ◌∷◌, ℤ, refl, ap, sym, ◌∙◌, if◌then◌else◌}
use Rattle.std.specs.List.{list_all}
use Rattle.ec_logic.specs.Tree.{Formula, verum, falsum, atom, equal, less, negation, all_of, any_of, implies, iff, for_all, exists, Formulas, no_formulas, formula}
use Rattle.ec_logic.specs.Universe.{Universe}
use Rattle.ec_logic.specs.Truth.{Structure, truth}
use Rattle.ec_logic.specs.ClauseTree.{only_has, only_have, is_clause, are_clauses, is_supported}
use Rattle.ec_logic.proofs.Tests.{and_parts, test_cases}
use Rattle.ec_folding.specs.Tree.{true_in, under_sign}
use Rattle.ec_grounding.specs.Folded.{fixed, Reading, leaf_truth, folded}
use Rattle.ec_grounding.specs.Scope.{scope_of}
use Rattle.ec_grounding.proofs.FoldedTruth.{true_in-folded}
use Rattle.ec_grounding.proofs.ScopeTruth.{true_in-scope_of}
use Rattle.ec_grounding.proofs.SameReading.{same_folded, same_scope}
use Rattle.ec_grounding.proofs.Readings.{chosen, rejected}

module _ (universe : Universe) (m : Structure) (reading : Reading) (v : ℕ → Bool) (test : ℕ → Bool) (reads : (p : ℕ) (vs : List ℤ) → test p ≡ true → leaf_truth v (reading p vs) ≡ m p vs) where
  -- the other atoms read as what they are in the structure
  abbrev guarded : Reading
  guarded p vs = if test p then reading p vs else fixed (m p vs)

  guarded_same : (p : ℕ) (vs : List ℤ) → test p ≡ true → reading p vs ≡ guarded p vs
  guarded_same p vs e = sym (chosen (test p) (reading p vs) (fixed (m p vs)) e)

  guarded_reads : (p : ℕ) (vs : List ℤ) → leaf_truth v (guarded p vs) ≡ m p vs
  guarded_reads p vs = test_cases (leaf_truth v (guarded p vs) ≡ m p vs) (test p)
      (λ t. ap (leaf_truth v) (chosen (test p) (reading p vs) (fixed (m p vs)) t) ∙ reads p vs t)
      (λ t. ap (leaf_truth v) (rejected (test p) (reading p vs) (fixed (m p vs)) t))

  pub true_in-folded_where : (env : List ℤ) (sign : Bool) (f : Formula) → only_has test f ≡ true → true_in v (folded universe reading env sign f) ≡ under_sign sign (truth universe m env f)
  true_in-folded_where env sign f h = ap (true_in v) (same_folded test universe reading guarded guarded_same env sign f h) ∙ true_in-folded universe m guarded v guarded_reads env sign f

  pub true_in-scope_where : (head : ℕ → Bool) (sentences : List Formula) (p : ℕ) (vs : List ℤ) → list_all (is_clause head (only_has test)) sentences ≡ true → true_in v (scope_of universe reading sentences p vs) ≡ is_supported universe m sentences p vs
  true_in-scope_where head sentences p vs h = ap (true_in v) (same_scope test universe reading guarded guarded_same p vs head sentences h) ∙ true_in-scope_of universe m guarded v guarded_reads p vs sentences

-- ---- two tests at once

module _ (s t : ℕ → Bool) where
  abbrev pub both_tests : ℕ → Bool
  both_tests p = s p && t p

  mutual
    both_have : (f : Formula) → only_has s f ≡ true → only_has t f ≡ true → only_has both_tests f ≡ true
    both_have verum h k = refl
    both_have falsum h k = refl
    both_have (atom p ts) h k = rw (h, k) refl
    both_have (equal a b) h k = refl
    both_have (less a b) h k = refl
    both_have (negation f) h k = both_have f h k
    both_have (all_of fs) h k = both_have_each fs h k
    both_have (any_of fs) h k = both_have_each fs h k
    both_have (implies f g) h k =
        let a = and_parts (only_has s f) (only_has s g) h in
        let b = and_parts (only_has t f) (only_has t g) k in
        rw (both_have f a.0 b.0, both_have g a.1 b.1) refl
    both_have (iff f g) h k =
        let a = and_parts (only_has s f) (only_has s g) h in
        let b = and_parts (only_has t f) (only_has t g) k in
        rw (both_have f a.0 b.0, both_have g a.1 b.1) refl
    both_have (for_all r f) h k = both_have f h k
    both_have (exists r f) h k = both_have f h k

    both_have_each : (fs : Formulas) → only_have s fs ≡ true → only_have t fs ≡ true → only_have both_tests fs ≡ true
    both_have_each no_formulas h k = refl
    both_have_each (formula f fs) h k =
        let a = and_parts (only_has s f) (only_have s fs) h in
        let b = and_parts (only_has t f) (only_have t fs) k in
        rw (both_have f a.0 b.0, both_have_each fs a.1 b.1) refl

  module _ (head other : ℕ → Bool) where
    mutual
      both_clause : (f : Formula) → is_clause head (only_has s) f ≡ true → is_clause other (only_has t) f ≡ true → is_clause head (only_has both_tests) f ≡ true
      both_clause verum h k = h
      both_clause falsum h k = h
      both_clause (atom p ts) h k = h
      both_clause (equal a b) h k = h
      both_clause (less a b) h k = h
      both_clause (negation f) h k = h
      both_clause (all_of fs) h k = both_clauses fs h k
      both_clause (any_of fs) h k = h
      both_clause (implies f g) h k =
          let a = and_parts (only_has s f) (is_clause head (only_has s) g) h in
          let b = and_parts (only_has t f) (is_clause other (only_has t) g) k in
          rw (both_have f a.0 b.0, both_clause g a.1 b.1) refl
      both_clause (iff f g) h k = h
      both_clause (for_all r f) h k = both_clause f h k
      both_clause (exists r f) h k = h

      both_clauses : (fs : Formulas) → are_clauses head (only_has s) fs ≡ true → are_clauses other (only_has t) fs ≡ true → are_clauses head (only_has both_tests) fs ≡ true
      both_clauses no_formulas h k = refl
      both_clauses (formula f fs) h k =
          let a = and_parts (is_clause head (only_has s) f) (are_clauses head (only_has s) fs) h in
          let b = and_parts (is_clause other (only_has t) f) (are_clauses other (only_has t) fs) k in
          rw (both_clause f a.0 b.0, both_clauses fs a.1 b.1) refl

    pub both_sentences : (fs : List Formula) → list_all (is_clause head (only_has s)) fs ≡ true → list_all (is_clause other (only_has t)) fs ≡ true → list_all (is_clause head (only_has both_tests)) fs ≡ true
    both_sentences [] h k = refl
    both_sentences (f ∷ fs) h k =
        let a = and_parts (is_clause head (only_has s) f) (list_all (is_clause head (only_has s)) fs) h in
        let b = and_parts (is_clause other (only_has t) f) (list_all (is_clause other (only_has t)) fs) k in
        rw (both_clause f a.0 b.0, both_sentences fs a.1 b.1) refl
