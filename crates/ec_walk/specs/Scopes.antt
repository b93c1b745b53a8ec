-- Lists of variables as the code holds them, and the free variables found so far, no more than sixteen.
use Rattle.std.specs.Prelude.{ℕ, nat_le, ◌||◌, if◌then◌else◌, List, [], ◌∷◌, ◌++◌, map, length}
use Rattle.std.specs.Borrow.{Bor}
use Rattle.ec_names.specs.Names.{is_among}
use Rattle.ec_syntax.specs.Written.{Term, name, variable, number, sum, difference, product, negative, Terms, no_terms, term, Formula, atom, compare, not, and, or, implies, iff, for_all, exists, Formulas, no_formulas, formula}
use Rattle.ec_walk.specs.Faults.{binder_limit, opened}

abbrev pub behind : Bor (List ℕ) → List ℕ
behind word = word.now

abbrev pub words : List (Bor (List ℕ)) → List (List ℕ)
words scope = map behind scope

-- those found once one more use is met
abbrev pub met : List (List ℕ) → List ℕ → List (List ℕ)
met found v = if is_among v found || nat_le binder_limit (length found) then found else found ++ v ∷ []

abbrev pub met_unbound : List (List ℕ) → List (List ℕ) → List ℕ → List (List ℕ)
met_unbound scope found v = if is_among v scope then found else met found v

-- those found once a term is passed
abbrev mutual
  pub met_in_term : List (List ℕ) → List (List ℕ) → Term → List (List ℕ)
  met_in_term scope found (name n ts) = met_in_terms scope found ts
  met_in_term scope found (variable v) = met_unbound scope found v
  met_in_term scope found (number n) = found
  met_in_term scope found (sum a b) = met_in_term scope (met_in_term scope found a) b
  met_in_term scope found (difference a b) = met_in_term scope (met_in_term scope found a) b
  met_in_term scope found (product a b) = met_in_term scope (met_in_term scope found a) b
  met_in_term scope found (negative a) = met_in_term scope found a

  pub met_in_terms : List (List ℕ) → List (List ℕ) → Terms → List (List ℕ)
  met_in_terms scope found no_terms = found
  met_in_terms scope found (term t ts) = met_in_terms scope (met_in_term scope found t) ts

-- those found once a formula is passed
abbrev mutual
  pub met_in : List (List ℕ) → List (List ℕ) → Formula → List (List ℕ)
  met_in scope found (atom n ts) = met_in_terms scope found ts
  met_in scope found (compare op a b) = met_in_term scope (met_in_term scope found a) b
  met_in scope found (not f) = met_in scope found f
  met_in scope found (and fs) = met_in_each scope found fs
  met_in scope found (or fs) = met_in_each scope found fs
  met_in scope found (implies f g) = met_in scope (met_in scope found f) g
  met_in scope found (iff f g) = met_in scope (met_in scope found f) g
  met_in scope found (for_all vs f) = met_in (opened scope vs) found f
  met_in scope found (exists vs f) = met_in (opened scope vs) found f

  pub met_in_each : List (List ℕ) → List (List ℕ) → Formulas → List (List ℕ)
  met_in_each scope found no_formulas = found
  met_in_each scope found (formula f fs) = met_in_each scope (met_in scope found f) fs
