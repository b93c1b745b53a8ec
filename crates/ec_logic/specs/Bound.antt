-- Bounds on the magnitude of whole-number terms, and the places that no binder narrows.
use Rattle.std.specs.Prelude.{ℕ, ◌+◌, ◌*◌, ◌≤◌, ◌^◌, max, ℤ, nat_abs, Bool, true, ◌&&◌, if◌then◌else◌, is_none, List, [], ◌∷◌, Option, Some, None, slice_get}
use Rattle.ec_logic.specs.Tree.{Term, variable, int, constant, event, fluent, sum, difference, product, Terms, no_terms, term, Formula, verum, falsum, atom, equal, less, negation, all_of, any_of, implies, iff, for_all, exists, Formulas, no_formulas, formula}
use Rattle.ec_logic.specs.Signature.{Signature}
use Rattle.ec_logic.specs.Extent.{in_range}
use Rattle.ec_logic.specs.Universe.{Universe, extent_at, row_of}
use Rattle.ec_logic.specs.Value.{value}
use Rattle.ec_logic.specs.Place.{innermost}
use Rattle.ec_logic.specs.Valid.{range_of}

-- the greater magnitude of a range's ends
abbrev pub greater_end : Option (ℤ × ℤ) → ℕ
greater_end None = 0
greater_end (Some range) = max (nat_abs range.0) (nat_abs range.1)

abbrev pub bound_of_sort : Signature → Option ℕ → ℕ
bound_of_sort signature None = 0
bound_of_sort signature (Some s) = greater_end (range_of signature s)

-- a bound on the magnitude of a whole-number term, where the scope lists the sorts of the open binders, the innermost first
abbrev pub bound : Signature → List ℕ → Term → ℕ
bound signature scope (variable k) = bound_of_sort signature (slice_get scope k)
bound signature scope (int z) = nat_abs z
bound signature scope (sum a b) = bound signature scope a + bound signature scope b
bound signature scope (difference a b) = bound signature scope a + bound signature scope b
bound signature scope (product a b) = bound signature scope a * bound signature scope b
bound signature scope _ = 0

-- the greatest bound that a term may have
abbrev pub bound_limit : ℕ
bound_limit = 2 ^ 62

abbrev pub IsWithinLimit : ℕ → Type 0
IsWithinLimit n = n ≤ bound_limit

-- no part of a term has a bound over the limit
abbrev mutual
  pub HasSmallBounds : Signature → List ℕ → Term → Type 0
  HasSmallBounds signature scope (variable k) = IsWithinLimit (bound signature scope (variable k))
  HasSmallBounds signature scope (int z) = IsWithinLimit (bound signature scope (int z))
  HasSmallBounds signature scope (constant c) = Unit {0}
  HasSmallBounds signature scope (event e ts) = HaveSmallBounds signature scope ts
  HasSmallBounds signature scope (fluent e ts) = HaveSmallBounds signature scope ts
  HasSmallBounds signature scope (sum a b) = HasSmallBounds signature scope a × HasSmallBounds signature scope b × IsWithinLimit (bound signature scope (sum a b))
  HasSmallBounds signature scope (difference a b) = HasSmallBounds signature scope a × HasSmallBounds signature scope b × IsWithinLimit (bound signature scope (difference a b))
  HasSmallBounds signature scope (product a b) = HasSmallBounds signature scope a × HasSmallBounds signature scope b × IsWithinLimit (bound signature scope (product a b))

  pub HaveSmallBounds : Signature → List ℕ → Terms → Type 0
  HaveSmallBounds signature scope no_terms = Unit {0}
  HaveSmallBounds signature scope (term t ts) = HasSmallBounds signature scope t × HaveSmallBounds signature scope ts

-- no term of a formula has a part with a bound over the limit
abbrev mutual
  pub IsBounded : Signature → List ℕ → Formula → Type 0
  IsBounded signature scope verum = Unit {0}
  IsBounded signature scope falsum = Unit {0}
  IsBounded signature scope (atom p ts) = HaveSmallBounds signature scope ts
  IsBounded signature scope (equal a b) = HasSmallBounds signature scope a × HasSmallBounds signature scope b
  IsBounded signature scope (less a b) = HasSmallBounds signature scope a × HasSmallBounds signature scope b
  IsBounded signature scope (negation f) = IsBounded signature scope f
  IsBounded signature scope (all_of fs) = AreBounded signature scope fs
  IsBounded signature scope (any_of fs) = AreBounded signature scope fs
  IsBounded signature scope (implies f g) = IsBounded signature scope f × IsBounded signature scope g
  IsBounded signature scope (iff f g) = IsBounded signature scope f × IsBounded signature scope g
  IsBounded signature scope (for_all s f) = IsBounded signature (s ∷ scope) f
  IsBounded signature scope (exists s f) = IsBounded signature (s ∷ scope) f

  pub AreBounded : Signature → List ℕ → Formulas → Type 0
  AreBounded signature scope no_formulas = Unit {0}
  AreBounded signature scope (formula f fs) = IsBounded signature scope f × AreBounded signature scope fs

-- ---- places without a variable

-- whether a term with this sort, if it has no variable, is in range
abbrev pub fixed_in_range : Universe → ℕ → Term → Bool
fixed_in_range universe s t = if is_none (innermost t) then in_range (extent_at universe s) (value universe [] t) else true

-- whether each place without a variable is in range
abbrev mutual
  pub fixed_places_fit : Universe → Term → Bool
  fixed_places_fit universe (variable k) = true
  fixed_places_fit universe (int z) = true
  fixed_places_fit universe (constant c) = true
  fixed_places_fit universe (event symbol ts) = all_fixed_fit universe (row_of universe.events symbol) ts
  fixed_places_fit universe (fluent symbol ts) = all_fixed_fit universe (row_of universe.fluents symbol) ts
  fixed_places_fit universe (sum a b) = fixed_places_fit universe a && fixed_places_fit universe b
  fixed_places_fit universe (difference a b) = fixed_places_fit universe a && fixed_places_fit universe b
  fixed_places_fit universe (product a b) = fixed_places_fit universe a && fixed_places_fit universe b

  pub all_fixed_fit : Universe → List ℕ → Terms → Bool
  all_fixed_fit universe ss no_terms = true
  all_fixed_fit universe [] (term t ts) = fixed_places_fit universe t && all_fixed_fit universe [] ts
  all_fixed_fit universe (s ∷ ss) (term t ts) = fixed_in_range universe s t && (fixed_places_fit universe t && all_fixed_fit universe ss ts)

abbrev mutual
  pub has_fixed_in_range : Universe → Formula → Bool
  has_fixed_in_range universe verum = true
  has_fixed_in_range universe falsum = true
  has_fixed_in_range universe (atom p ts) = all_fixed_fit universe (row_of universe.predicates p) ts
  has_fixed_in_range universe (equal a b) = fixed_places_fit universe a && fixed_places_fit universe b
  has_fixed_in_range universe (less a b) = fixed_places_fit universe a && fixed_places_fit universe b
  has_fixed_in_range universe (negation f) = has_fixed_in_range universe f
  has_fixed_in_range universe (all_of fs) = have_fixed_in_range universe fs
  has_fixed_in_range universe (any_of fs) = have_fixed_in_range universe fs
  has_fixed_in_range universe (implies f g) = has_fixed_in_range universe f && has_fixed_in_range universe g
  has_fixed_in_range universe (iff f g) = has_fixed_in_range universe f && has_fixed_in_range universe g
  has_fixed_in_range universe (for_all s f) = has_fixed_in_range universe f
  has_fixed_in_range universe (exists s f) = has_fixed_in_range universe f

  pub have_fixed_in_range : Universe → Formulas → Bool
  have_fixed_in_range universe no_formulas = true
  have_fixed_in_range universe (formula f fs) = has_fixed_in_range universe f && have_fixed_in_range universe fs
