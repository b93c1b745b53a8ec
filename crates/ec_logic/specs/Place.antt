-- The places of a formula: the whole-number arguments of its predicates, events and fluents. A place belongs to the innermost binder
-- that binds a variable of its term, and a binder ranges over the values for which each place that belongs to it is in range.
use Rattle.std.specs.Prelude.{ℕ, suc, ◌==◌, min, ℤ, pos, Bool, true, false, ◌&&◌, if◌then◌else◌, List, [], ◌∷◌, filter, Option, Some, None}
use Rattle.ec_logic.specs.Tree.{Term, variable, int, constant, event, fluent, sum, difference, product, Terms, no_terms, term, Formula, verum, falsum, atom, equal, less, negation, all_of, any_of, implies, iff, for_all, exists, Formulas, no_formulas, formula}
use Rattle.ec_logic.specs.Extent.{in_range}
use Rattle.ec_logic.specs.Universe.{Universe, extent_at, domain, row_of}
use Rattle.ec_logic.specs.Value.{value}

-- the innermost variable of a term
abbrev pub nearer : Option ℕ → Option ℕ → Option ℕ
nearer None b = b
nearer (Some a) None = Some a
nearer (Some a) (Some b) = Some (min a b)

abbrev mutual
  pub innermost : Term → Option ℕ
  innermost (variable k) = Some k
  innermost (int z) = None
  innermost (constant c) = None
  innermost (event symbol ts) = innermost_of ts
  innermost (fluent symbol ts) = innermost_of ts
  innermost (sum a b) = nearer (innermost a) (innermost b)
  innermost (difference a b) = nearer (innermost a) (innermost b)
  innermost (product a b) = nearer (innermost a) (innermost b)

  pub innermost_of : Terms → Option ℕ
  innermost_of no_terms = None
  innermost_of (term t ts) = nearer (innermost t) (innermost_of ts)

abbrev pub is_at : ℕ → Option ℕ → Bool
is_at d None = false
is_at d (Some k) = k == d

-- whether a term with this sort, if it is a place of the binder d binders out, is in range
abbrev pub place_in_range : Universe → List ℤ → ℕ → ℕ → Term → Bool
place_in_range universe env d s t = if is_at d (innermost t) then in_range (extent_at universe s) (value universe env t) else true

-- whether each place of the binder d binders out is in range
abbrev mutual
  pub term_keeps : Universe → List ℤ → ℕ → Term → Bool
  term_keeps universe env d (variable k) = true
  term_keeps universe env d (int z) = true
  term_keeps universe env d (constant c) = true
  term_keeps universe env d (event symbol ts) = terms_keep universe env d (row_of universe.events symbol) ts
  term_keeps universe env d (fluent symbol ts) = terms_keep universe env d (row_of universe.fluents symbol) ts
  term_keeps universe env d (sum a b) = term_keeps universe env d a && term_keeps universe env d b
  term_keeps universe env d (difference a b) = term_keeps universe env d a && term_keeps universe env d b
  term_keeps universe env d (product a b) = term_keeps universe env d a && term_keeps universe env d b

  pub terms_keep : Universe → List ℤ → ℕ → List ℕ → Terms → Bool
  terms_keep universe env d ss no_terms = true
  terms_keep universe env d [] (term t ts) = term_keeps universe env d t && terms_keep universe env d [] ts
  terms_keep universe env d (s ∷ ss) (term t ts) = place_in_range universe env d s t && (term_keeps universe env d t && terms_keep universe env d ss ts)

abbrev mutual
  pub keeps : Universe → List ℤ → ℕ → Formula → Bool
  keeps universe env d verum = true
  keeps universe env d falsum = true
  keeps universe env d (atom p ts) = terms_keep universe env d (row_of universe.predicates p) ts
  keeps universe env d (equal a b) = term_keeps universe env d a && term_keeps universe env d b
  keeps universe env d (less a b) = term_keeps universe env d a && term_keeps universe env d b
  keeps universe env d (negation f) = keeps universe env d f
  keeps universe env d (all_of fs) = all_keep universe env d fs
  keeps universe env d (any_of fs) = all_keep universe env d fs
  keeps universe env d (implies f g) = keeps universe env d f && keeps universe env d g
  keeps universe env d (iff f g) = keeps universe env d f && keeps universe env d g
  keeps universe env d (for_all s f) = keeps universe (pos 0 ∷ env) (suc d) f
  keeps universe env d (exists s f) = keeps universe (pos 0 ∷ env) (suc d) f

  pub all_keep : Universe → List ℤ → ℕ → Formulas → Bool
  all_keep universe env d no_formulas = true
  all_keep universe env d (formula f fs) = keeps universe env d f && all_keep universe env d fs

-- the values over which a binder of this sort runs
abbrev pub kept_values : Universe → List ℤ → ℕ → Formula → List ℤ
kept_values universe env s f = filter (λ v. keeps universe (v ∷ env) 0 f) (domain universe s)
