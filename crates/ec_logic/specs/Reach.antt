-- How far outwards variables reach, how deep binders nest, and whether raised variables are still numbers of 32 bits.
use Rattle.std.specs.Prelude.{ℕ, suc, ◌+◌, ◌<◌, ◌^◌, max}
use Rattle.ec_logic.specs.Tree.{Term, variable, int, constant, event, fluent, sum, difference, product, Terms, no_terms, term, Formula, verum, falsum, atom, equal, less, negation, all_of, any_of, implies, iff, for_all, exists, Formulas, no_formulas, formula}
use Rattle.ec_logic.specs.Shift.{shifted_variable}

-- one more than the greatest variable, or 0 where there is none
abbrev mutual
  pub reach : Term → ℕ
  reach (variable k) = suc k
  reach (int z) = 0
  reach (constant c) = 0
  reach (event s ts) = reach_of ts
  reach (fluent s ts) = reach_of ts
  reach (sum a b) = max (reach a) (reach b)
  reach (difference a b) = max (reach a) (reach b)
  reach (product a b) = max (reach a) (reach b)

  pub reach_of : Terms → ℕ
  reach_of no_terms = 0
  reach_of (term t ts) = max (reach t) (reach_of ts)

-- how many binders nest
abbrev mutual
  pub nesting : Formula → ℕ
  nesting verum = 0
  nesting falsum = 0
  nesting (atom p ts) = 0
  nesting (equal a b) = 0
  nesting (less a b) = 0
  nesting (negation f) = nesting f
  nesting (all_of fs) = nesting_of fs
  nesting (any_of fs) = nesting_of fs
  nesting (implies f g) = max (nesting f) (nesting g)
  nesting (iff f g) = max (nesting f) (nesting g)
  nesting (for_all s f) = nesting f + 1
  nesting (exists s f) = nesting f + 1

  pub nesting_of : Formulas → ℕ
  nesting_of no_formulas = 0
  nesting_of (formula f fs) = max (nesting f) (nesting_of fs)

-- each variable is a number of 32 bits once those from a number on are raised
abbrev mutual
  pub CanShiftTerm : ℕ → ℕ → Term → Type 0
  CanShiftTerm from by (variable k) = shifted_variable from by k < 2 ^ 32
  CanShiftTerm from by (int z) = Unit {0}
  CanShiftTerm from by (constant c) = Unit {0}
  CanShiftTerm from by (event s ts) = CanShiftTerms from by ts
  CanShiftTerm from by (fluent s ts) = CanShiftTerms from by ts
  CanShiftTerm from by (sum a b) = CanShiftTerm from by a × CanShiftTerm from by b
  CanShiftTerm from by (difference a b) = CanShiftTerm from by a × CanShiftTerm from by b
  CanShiftTerm from by (product a b) = CanShiftTerm from by a × CanShiftTerm from by b

  pub CanShiftTerms : ℕ → ℕ → Terms → Type 0
  CanShiftTerms from by no_terms = Unit {0}
  CanShiftTerms from by (term t ts) = CanShiftTerm from by t × CanShiftTerms from by ts

-- the same of a formula, and so is the number itself under each binder
abbrev mutual
  pub CanShift : ℕ → ℕ → Formula → Type 0
  CanShift from by verum = Unit {0}
  CanShift from by falsum = Unit {0}
  CanShift from by (atom p ts) = CanShiftTerms from by ts
  CanShift from by (equal a b) = CanShiftTerm from by a × CanShiftTerm from by b
  CanShift from by (less a b) = CanShiftTerm from by a × CanShiftTerm from by b
  CanShift from by (negation f) = CanShift from by f
  CanShift from by (all_of fs) = CanShiftEach from by fs
  CanShift from by (any_of fs) = CanShiftEach from by fs
  CanShift from by (implies f g) = CanShift from by f × CanShift from by g
  CanShift from by (iff f g) = CanShift from by f × CanShift from by g
  CanShift from by (for_all s f) = (suc from < 2 ^ 32) × CanShift (suc from) by f
  CanShift from by (exists s f) = (suc from < 2 ^ 32) × CanShift (suc from) by f

  pub CanShiftEach : ℕ → ℕ → Formulas → Type 0
  CanShiftEach from by no_formulas = Unit {0}
  CanShiftEach from by (formula f fs) = CanShift from by f × CanShiftEach from by fs
