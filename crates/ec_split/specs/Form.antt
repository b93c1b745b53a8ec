-- Why a formula isn't a clause tree of a group: the first fault, where the tree is walked in reading order, a body before its clause tree.
use Rattle.std.specs.Prelude.{ℕ, Bool, if◌then◌else◌, Option, None, Some, option_map}
use Rattle.std.specs.Option.{option_or}
use Rattle.ec_logic.specs.Tree.{Formula, verum, falsum, atom, equal, less, negation, all_of, any_of, implies, iff, for_all, exists, Formulas, no_formulas, formula}

-- A node that is no part of a clause tree, or a predicate: of a head outside the group, or of a body in the group.
pub data Fault : Type 0 where
  no_clause : Fault
  misplaced : ℕ → Fault

-- the first predicate that passes a test
abbrev mutual
  pub first_predicate : (ℕ → Bool) → Formula → Option ℕ
  first_predicate test verum = None
  first_predicate test falsum = None
  first_predicate test (atom p ts) = if test p then Some p else None
  first_predicate test (equal a b) = None
  first_predicate test (less a b) = None
  first_predicate test (negation f) = first_predicate test f
  first_predicate test (all_of fs) = first_predicate_of test fs
  first_predicate test (any_of fs) = first_predicate_of test fs
  first_predicate test (implies f g) = option_or (first_predicate test f) (first_predicate test g)
  first_predicate test (iff f g) = option_or (first_predicate test f) (first_predicate test g)
  first_predicate test (for_all s f) = first_predicate test f
  first_predicate test (exists s f) = first_predicate test f

  pub first_predicate_of : (ℕ → Bool) → Formulas → Option ℕ
  first_predicate_of test no_formulas = None
  first_predicate_of test (formula f fs) = option_or (first_predicate test f) (first_predicate_of test fs)

-- the first fault, where a test tells the group's predicates
abbrev mutual
  pub clause_fault : (ℕ → Bool) → Formula → Option Fault
  clause_fault group (atom p ts) = if group p then None else Some (misplaced p)
  clause_fault group (implies f g) = option_or (option_map misplaced (first_predicate group f)) (clause_fault group g)
  clause_fault group (all_of fs) = clause_fault_of group fs
  clause_fault group (for_all s f) = clause_fault group f
  clause_fault group _ = Some no_clause

  pub clause_fault_of : (ℕ → Bool) → Formulas → Option Fault
  clause_fault_of group no_formulas = None
  clause_fault_of group (formula f fs) = option_or (clause_fault group f) (clause_fault_of group fs)

-- the first head of a clause tree
abbrev mutual
  pub first_head : Formula → Option ℕ
  first_head (atom p ts) = Some p
  first_head (implies f g) = first_head g
  first_head (all_of fs) = first_head_of fs
  first_head (for_all s f) = first_head f
  first_head _ = None

  pub first_head_of : Formulas → Option ℕ
  first_head_of no_formulas = None
  first_head_of (formula f fs) = option_or (first_head f) (first_head_of fs)
