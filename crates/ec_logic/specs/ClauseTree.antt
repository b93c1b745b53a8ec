-- Clause trees: an atom, an implication whose right side is a clause tree, a conjunction of clause trees, or a for all whose scope is one.
-- The atoms so reached are the heads, the left sides of the implications the bodies.
use Rattle.std.specs.Prelude.{ℕ, ◌==◌, ℤ, Bool, true, false, not, ◌&&◌, ◌||◌, List, [], ◌∷◌}
use Rattle.std.specs.List.{list_all, list_any}
use Rattle.ec_logic.specs.Tree.{Formula, verum, falsum, atom, equal, less, negation, all_of, any_of, implies, iff, for_all, exists, Formulas, no_formulas, formula}
use Rattle.ec_logic.specs.Universe.{Universe}
use Rattle.ec_logic.specs.Value.{values, same_values}
use Rattle.ec_logic.specs.Place.{kept_values}
use Rattle.ec_logic.specs.Truth.{Structure, truth}
use Rattle.ec_logic.specs.Theory.{Group, is_in_group}

-- whether each predicate that occurs passes a test
abbrev mutual
  pub only_has : (ℕ → Bool) → Formula → Bool
  only_has test verum = true
  only_has test falsum = true
  only_has test (atom p ts) = test p
  only_has test (equal a b) = true
  only_has test (less a b) = true
  only_has test (negation f) = only_has test f
  only_has test (all_of fs) = only_have test fs
  only_has test (any_of fs) = only_have test fs
  only_has test (implies f g) = only_has test f && only_has test g
  only_has test (iff f g) = only_has test f && only_has test g
  only_has test (for_all s f) = only_has test f
  only_has test (exists s f) = only_has test f

  pub only_have : (ℕ → Bool) → Formulas → Bool
  only_have test no_formulas = true
  only_have test (formula f fs) = only_has test f && only_have test fs

-- whether a formula is a clause tree whose heads' predicates and whose bodies pass these tests
abbrev mutual
  pub is_clause : (ℕ → Bool) → (Formula → Bool) → Formula → Bool
  is_clause head body (atom p ts) = head p
  is_clause head body (implies f g) = body f && is_clause head body g
  is_clause head body (all_of fs) = are_clauses head body fs
  is_clause head body (for_all s f) = is_clause head body f
  is_clause head body _ = false

  pub are_clauses : (ℕ → Bool) → (Formula → Bool) → Formulas → Bool
  are_clauses head body no_formulas = true
  are_clauses head body (formula f fs) = is_clause head body f && are_clauses head body fs

abbrev pub any_predicate : ℕ → Bool
any_predicate p = true

abbrev pub any_body : Formula → Bool
any_body f = true

-- whether a body has no predicate of a group
abbrev pub is_free_of : Group → Formula → Bool
is_free_of group f = only_has (λ p. not (is_in_group group p)) f

-- whether each sentence of a group is a clause tree with heads of the group and bodies free of it
abbrev pub has_clause_form : Group → Bool
has_clause_form group = list_all (is_clause (is_in_group group) (is_free_of group)) group.sentences

-- ---- what a clause tree says of an atom

-- whether a tuple of a predicate is a head, under values of the binders at which all bodies are true
abbrev mutual
  pub supports : Universe → Structure → ℕ → List ℤ → List ℤ → Formula → Bool
  supports universe m p vs env (atom q ts) = (q == p) && same_values (values universe env ts) vs
  supports universe m p vs env (implies f g) = truth universe m env f && supports universe m p vs env g
  supports universe m p vs env (all_of fs) = one_supports universe m p vs env fs
  supports universe m p vs env (for_all s f) = list_any (λ v. supports universe m p vs (v ∷ env) f) (kept_values universe env s f)
  supports universe m p vs env _ = false

  pub one_supports : Universe → Structure → ℕ → List ℤ → List ℤ → Formulas → Bool
  one_supports universe m p vs env no_formulas = false
  one_supports universe m p vs env (formula f fs) = supports universe m p vs env f || one_supports universe m p vs env fs

-- whether one of these sentences supports the tuple
abbrev pub is_supported : Universe → Structure → List Formula → ℕ → List ℤ → Bool
is_supported universe m sentences p vs = list_any (λ f. supports universe m p vs [] f) sentences
