-- The predicates of well sorted formulas are the signature's.
use Rattle.std.proofs.Common.{◌≡◌, ℕ, ◌<◌, nat_lt, Bool, true, List, [], ◌∷◌, length, All, refl, arith}
use Rattle.std.specs.List.{list_all}
use Rattle.std.proofs.lemmas.Bool.Decides.{nat_tests}
use Rattle.std.proofs.lemmas.List.Elements.{All-head, All-tail}
use Rattle.ec_logic.specs.Tree.{Formula, verum, falsum, atom, equal, less, negation, all_of, any_of, implies, iff, for_all, exists, Formulas, no_formulas, formula}
use Rattle.ec_logic.specs.Signature.{Signature}
use Rattle.ec_logic.specs.Sorting.{IsWellSorted, AreWellSorted}
use Rattle.ec_logic.specs.ClauseTree.{only_has, only_have, is_clause, are_clauses, any_predicate}
use Rattle.ec_logic.proofs.Tests.{and_parts}

module _ (signature : Signature) where
  abbrev pub is_known : ℕ → Bool
  is_known p = nat_lt p (length signature.predicates)

  pub known_below : (p : ℕ) → is_known p ≡ true → p < length signature.predicates
  known_below p e = grind (arith, nat_tests, e)

  mutual
    pub known_predicates : (scope : List ℕ) (f : Formula) → IsWellSorted signature scope f → only_has is_known f ≡ true
    known_predicates scope verum w = refl
    known_predicates scope falsum w = refl
    known_predicates scope (atom p ts) w = let low = w.0 in grind (arith, nat_tests, low)
    known_predicates scope (equal a b) w = refl
    known_predicates scope (less a b) w = refl
    known_predicates scope (negation f) w = known_predicates scope f w
    known_predicates scope (all_of fs) w = known_in_each scope fs w
    known_predicates scope (any_of fs) w = known_in_each scope fs w
    known_predicates scope (implies f g) w = rw (known_predicates scope f w.0, known_predicates scope g w.1) refl
    known_predicates scope (iff f g) w = rw (known_predicates scope f w.0, known_predicates scope g w.1) refl
    known_predicates scope (for_all s f) w = known_predicates (s ∷ scope) f w.1
    known_predicates scope (exists s f) w = known_predicates (s ∷ scope) f w.1

    known_in_each : (scope : List ℕ) (fs : Formulas) → AreWellSorted signature scope fs → only_have is_known fs ≡ true
    known_in_each scope no_formulas w = refl
    known_in_each scope (formula f fs) w = rw (known_predicates scope f w.0, known_in_each scope fs w.1) refl

  -- a clause tree's bodies have such predicates alone
  module _ (head : ℕ → Bool) (body : Formula → Bool) where
    mutual
      known_clause : (scope : List ℕ) (f : Formula) → IsWellSorted signature scope f → is_clause head body f ≡ true → is_clause any_predicate (only_has is_known) f ≡ true
      known_clause scope verum w h = absurd cc
      known_clause scope falsum w h = absurd cc
      known_clause scope (atom p ts) w h = refl
      known_clause scope (equal a b) w h = absurd cc
      known_clause scope (less a b) w h = absurd cc
      known_clause scope (negation f) w h = absurd cc
      known_clause scope (all_of fs) w h = known_clauses scope fs w h
      known_clause scope (any_of fs) w h = absurd cc
      known_clause scope (implies f g) w h =
          let both = and_parts (body f) (is_clause head body g) h in
          rw (known_predicates scope f w.0, known_clause scope g w.1 both.1) refl
      known_clause scope (iff f g) w h = absurd cc
      known_clause scope (for_all s f) w h = known_clause (s ∷ scope) f w.1 h
      known_clause scope (exists s f) w h = absurd cc

      known_clauses : (scope : List ℕ) (fs : Formulas) → AreWellSorted signature scope fs → are_clauses head body fs ≡ true → are_clauses any_predicate (only_has is_known) fs ≡ true
      known_clauses scope no_formulas w h = refl
      known_clauses scope (formula f fs) w h =
          let both = and_parts (is_clause head body f) (are_clauses head body fs) h in
          rw (known_clause scope f w.0 both.0, known_clauses scope fs w.1 both.1) refl

    pub known_sentences : (fs : List Formula) → All (IsWellSorted signature []) fs → list_all (is_clause head body) fs ≡ true → list_all (is_clause any_predicate (only_has is_known)) fs ≡ true
    known_sentences [] w h = refl
    known_sentences (f ∷ fs) w h =
        let both = and_parts (is_clause head body f) (list_all (is_clause head body) fs) h in
        rw (known_clause [] f (All-head (IsWellSorted signature []) f fs w) both.0, known_sentences fs (All-tail (IsWellSorted signature []) f fs w) both.1) refl
