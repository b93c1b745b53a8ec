-- The free variables of a sentence. The scope lists the binders that are open where a part stands.
use Rattle.std.specs.Prelude.{ℕ, if◌then◌else◌, List, [], ◌∷◌, ◌++◌, take}
use Rattle.ec_names.specs.Names.{is_among, firsts_after, itself}
use Rattle.ec_syntax.specs.Written.{Term, name, variable, number, sum, difference, product, negative, Terms, no_terms, term, Formula, atom, compare, not, and, or, implies, iff, for_all, exists, Formulas, no_formulas, formula}
use Rattle.ec_walk.specs.Faults.{opened, binder_limit}

-- each use of a variable that no open binder binds, in the order written
abbrev mutual
  pub free_in_term : List (List ℕ) → Term → List (List ℕ)
  free_in_term scope (name n ts) = free_in_terms scope ts
  free_in_term scope (variable v) = if is_among v scope then [] else v ∷ []
  free_in_term scope (number n) = []
  free_in_term scope (sum a b) = free_in_term scope a ++ free_in_term scope b
  free_in_term scope (difference a b) = free_in_term scope a ++ free_in_term scope b
  free_in_term scope (product a b) = free_in_term scope a ++ free_in_term scope b
  free_in_term scope (negative a) = free_in_term scope a

  pub free_in_terms : List (List ℕ) → Terms → List (List ℕ)
  free_in_terms scope no_terms = []
  free_in_terms scope (term t ts) = free_in_term scope t ++ free_in_terms scope ts

abbrev mutual
  pub free_in : List (List ℕ) → Formula → List (List ℕ)
  free_in scope (atom n ts) = free_in_terms scope ts
  free_in scope (compare op a b) = free_in_term scope a ++ free_in_term scope b
  free_in scope (not f) = free_in scope f
  free_in scope (and fs) = free_in_each scope fs
  free_in scope (or fs) = free_in_each scope fs
  free_in scope (implies f g) = free_in scope f ++ free_in scope g
  free_in scope (iff f g) = free_in scope f ++ free_in scope g
  free_in scope (for_all vs f) = free_in (opened scope vs) f
  free_in scope (exists vs f) = free_in (opened scope vs) f

  pub free_in_each : List (List ℕ) → Formulas → List (List ℕ)
  free_in_each scope no_formulas = []
  free_in_each scope (formula f fs) = free_in scope f ++ free_in_each scope fs

-- the free variables of a sentence, each once, in the order of their first free use
abbrev pub free_variables : Formula → List (List ℕ)
free_variables f = firsts_after itself [] (free_in [] f)

-- those that are closed by for all: a seventeenth is a fault
abbrev pub closed_variables : Formula → List (List ℕ)
closed_variables f = take binder_limit (free_variables f)
