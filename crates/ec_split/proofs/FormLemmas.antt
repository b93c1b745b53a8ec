-- A formula without a fault is a clause tree of its group.
use Rattle.std.proofs.Common.{◌≡◌, ℕ, Bool, true, false, not, ◌&&◌, Option, None, Some, option_map, if◌then◌else◌, refl}
use Rattle.std.specs.Option.{option_or}
use Rattle.ec_logic.specs.Tree.{Formula, verum, falsum, atom, equal, less, negation, all_of, any_of, implies, iff, for_all, exists, Formulas, no_formulas, formula}
use Rattle.ec_logic.specs.ClauseTree.{only_has, only_have, is_clause, are_clauses}
use Rattle.ec_split.specs.Form.{misplaced, first_predicate, first_predicate_of, clause_fault, clause_fault_of}

pub both_none : {A : Type 0} (a b : Option A) → option_or a b ≡ None → (a ≡ None) × (b ≡ None)
both_none None b h = (refl, h)
both_none (Some x) b h = cc

unmapped : (o : Option ℕ) → option_map misplaced o ≡ None → o ≡ None
unmapped None h = refl
unmapped (Some p) h = cc

and_both : (a b : Bool) → a ≡ true → b ≡ true → (a && b) ≡ true
and_both a b e f = rw (e, f) refl

test_none : {A : Type 0} (b : Bool) (x : A) → (if b then Some x else None) ≡ None → not b ≡ true
test_none true x h = cc
test_none false x h = refl

test_some : {A : Type 0} (b : Bool) (x : A) → (if b then None else Some x) ≡ None → b ≡ true
test_some true x h = refl
test_some false x h = cc

module _ (test : ℕ → Bool) where
  mutual
    free : (f : Formula) → first_predicate test f ≡ None → only_has (λ p. not (test p)) f ≡ true
    free verum h = refl
    free falsum h = refl
    free (atom p ts) h = test_none (test p) p h
    free (equal a b) h = refl
    free (less a b) h = refl
    free (negation f) h = free f h
    free (all_of fs) h = each_free fs h
    free (any_of fs) h = each_free fs h
    free (implies f g) h = let n = both_none (first_predicate test f) (first_predicate test g) h in and_both _ _ (free f n.0) (free g n.1)
    free (iff f g) h = let n = both_none (first_predicate test f) (first_predicate test g) h in and_both _ _ (free f n.0) (free g n.1)
    free (for_all s f) h = free f h
    free (exists s f) h = free f h

    each_free : (fs : Formulas) → first_predicate_of test fs ≡ None → only_have (λ p. not (test p)) fs ≡ true
    each_free no_formulas h = refl
    each_free (formula f fs) h = let n = both_none (first_predicate test f) (first_predicate_of test fs) h in and_both _ _ (free f n.0) (each_free fs n.1)

  mutual
    pub fine : (f : Formula) → clause_fault test f ≡ None → is_clause test (only_has (λ p. not (test p))) f ≡ true
    fine verum h = cc
    fine falsum h = cc
    fine (atom p ts) h = test_some (test p) (misplaced p) h
    fine (equal a b) h = cc
    fine (less a b) h = cc
    fine (negation f) h = cc
    fine (all_of fs) h = each_fine fs h
    fine (any_of fs) h = cc
    fine (implies f g) h =
        let n = both_none (option_map misplaced (first_predicate test f)) (clause_fault test g) h in
        and_both _ _ (free f (unmapped (first_predicate test f) n.0)) (fine g n.1)
    fine (iff f g) h = cc
    fine (for_all s f) h = fine f h
    fine (exists s f) h = cc

    each_fine : (fs : Formulas) → clause_fault_of test fs ≡ None → are_clauses test (only_has (λ p. not (test p))) fs ≡ true
    each_fine no_formulas h = refl
    each_fine (formula f fs) h = let n = both_none (clause_fault test f) (clause_fault_of test fs) h in and_both _ _ (fine f n.0) (each_fine fs n.1)
