-- Formulas with a term in place of a variable.
use Rattle.std.specs.Prelude.{ℕ, suc, ◌≡◌, ◌-◌, ◌==◌, nat_lt, if◌then◌else◌, ℤ, List, ◌∷◌, ◌++◌, length}
use Rattle.ec_logic.specs.Tree.{Term, variable, int, constant, event, fluent, sum, difference, product, Terms, no_terms, term, Formula, verum, falsum, atom, equal, less, negation, all_of, any_of, implies, iff, for_all, exists, Formulas, no_formulas, formula}
use Rattle.ec_logic.specs.Universe.{Universe}
use Rattle.ec_logic.specs.Value.{value}
use Rattle.ec_logic.specs.Truth.{Structure, truth}
use Rattle.ec_logic.specs.Shift.{shifted_term}

-- a variable with the term in its place, or one less where it stands outside
abbrev pub substituted_variable : ℕ → Term → ℕ → Term
substituted_variable at t k = if nat_lt k at then variable k else (if k == at then t else variable (k - 1))

abbrev mutual
  pub substituted_term : ℕ → Term → Term → Term
  substituted_term at t (variable k) = substituted_variable at t k
  substituted_term at t (int z) = int z
  substituted_term at t (constant c) = constant c
  substituted_term at t (event s ts) = event s (substituted_terms at t ts)
  substituted_term at t (fluent s ts) = fluent s (substituted_terms at t ts)
  substituted_term at t (sum a b) = sum (substituted_term at t a) (substituted_term at t b)
  substituted_term at t (difference a b) = difference (substituted_term at t a) (substituted_term at t b)
  substituted_term at t (product a b) = product (substituted_term at t a) (substituted_term at t b)

  pub substituted_terms : ℕ → Term → Terms → Terms
  substituted_terms at t no_terms = no_terms
  substituted_terms at t (term u us) = term (substituted_term at t u) (substituted_terms at t us)

-- a formula with the term, raised under each binder, in place of a free variable
abbrev mutual
  pub substituted : ℕ → Term → Formula → Formula
  substituted at t verum = verum
  substituted at t falsum = falsum
  substituted at t (atom p us) = atom p (substituted_terms at t us)
  substituted at t (equal a b) = equal (substituted_term at t a) (substituted_term at t b)
  substituted at t (less a b) = less (substituted_term at t a) (substituted_term at t b)
  substituted at t (negation f) = negation (substituted at t f)
  substituted at t (all_of fs) = all_of (substituted_each at t fs)
  substituted at t (any_of fs) = any_of (substituted_each at t fs)
  substituted at t (implies f g) = implies (substituted at t f) (substituted at t g)
  substituted at t (iff f g) = iff (substituted at t f) (substituted at t g)
  substituted at t (for_all s f) = for_all s (substituted (suc at) (shifted_term 0 1 t) f)
  substituted at t (exists s f) = exists s (substituted (suc at) (shifted_term 0 1 t) f)

  pub substituted_each : ℕ → Term → Formulas → Formulas
  substituted_each at t no_formulas = no_formulas
  substituted_each at t (formula f fs) = formula (substituted at t f) (substituted_each at t fs)

-- ---- what is true of the result

-- The one formula is true exactly where the other is true with the term's value put in at the place.
abbrev pub PutsValue : ℕ → Term → Formula → Formula → Type 0
PutsValue at t f g = (universe : Universe) (m : Structure) (front env : List ℤ) → length front ≡ at → truth universe m (front ++ env) g ≡ truth universe m (front ++ value universe (front ++ env) t ∷ env) f
