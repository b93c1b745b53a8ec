-- Closed formulas whose terms fit the sorts of a signature. A scope lists the sorts of the open binders, the innermost first.
use Rattle.std.specs.Prelude.{ℕ, ◌≡◌, ◌<◌, ◌==◌, Bool, true, false, ◌&&◌, ◌||◌, if◌then◌else◌, List, [], ◌∷◌, length, Option, Some, None, slice_get}
use Rattle.ec_logic.specs.Tree.{Term, variable, int, constant, event, fluent, sum, difference, product, Terms, no_terms, term, Formula, verum, falsum, atom, equal, less, negation, all_of, any_of, implies, iff, for_all, exists, Formulas, no_formulas, formula}
use Rattle.ec_logic.specs.Signature.{Signature, integer_sort, event_sort, fluent_sort, is_within}
use Rattle.ec_logic.specs.Universe.{is_constant_in, argument_sorts, row_of}
use Rattle.ec_logic.specs.Valid.{is_plain_sort, is_integer_sort}

-- whether a variable of the second sort fits an argument of the first: any whole number fits a sort of whole numbers
abbrev pub is_argument_of : Signature → ℕ → ℕ → Bool
is_argument_of signature s r = if is_integer_sort signature s then is_integer_sort signature r else is_within signature r s

-- whether a variable's binder is open and its sort passes a test
abbrev pub sort_found : (ℕ → Bool) → Option ℕ → Bool
sort_found test None = false
sort_found test (Some r) = test r

abbrev pub has_sort : (ℕ → Bool) → List ℕ → ℕ → Bool
has_sort test scope k = sort_found test (slice_get scope k)

-- A term fits an argument of a sort. Sums, differences and products are of whole numbers.
abbrev mutual
  pub Fits : Signature → List ℕ → ℕ → Term → Type 0
  Fits signature scope s (variable k) = has_sort (is_argument_of signature s) scope k ≡ true
  Fits signature scope s (int z) = is_integer_sort signature s ≡ true
  Fits signature scope s (constant c) = (is_plain_sort signature s ≡ true) × (is_constant_in signature s c ≡ true)
  Fits signature scope s (event e ts) = (s ≡ event_sort) × (e < length signature.events) × AllFit signature scope (row_of (argument_sorts signature.events) e) ts
  Fits signature scope s (fluent e ts) = (s ≡ fluent_sort) × (e < length signature.fluents) × AllFit signature scope (row_of (argument_sorts signature.fluents) e) ts
  Fits signature scope s (sum a b) = (is_integer_sort signature s ≡ true) × Fits signature scope integer_sort a × Fits signature scope integer_sort b
  Fits signature scope s (difference a b) = (is_integer_sort signature s ≡ true) × Fits signature scope integer_sort a × Fits signature scope integer_sort b
  Fits signature scope s (product a b) = (is_integer_sort signature s ≡ true) × Fits signature scope integer_sort a × Fits signature scope integer_sort b

  pub AllFit : Signature → List ℕ → List ℕ → Terms → Type 0
  AllFit signature scope [] no_terms = Unit {0}
  AllFit signature scope (s ∷ ss) (term t ts) = Fits signature scope s t × AllFit signature scope ss ts
  AllFit signature scope _ _ = ⊥

-- whether terms of two sorts may be said to be equal: whole numbers, things of plain sorts, events, or fluents
abbrev pub are_comparable : Signature → ℕ → ℕ → Bool
are_comparable signature s r = (is_integer_sort signature s && is_integer_sort signature r) || (is_plain_sort signature s && is_plain_sort signature r) || (s == r)

pub record AreComparable (signature : Signature) (scope : List ℕ) (a b : Term) : Type 0 where
  pub left_sort : ℕ
  pub right_sort : ℕ
  pub left : Fits signature scope left_sort a
  pub right : Fits signature scope right_sort b
  pub comparable : are_comparable signature left_sort right_sort ≡ true

-- Each variable has an open binder, each predicate is one of the signature's, and each term fits.
abbrev mutual
  pub IsWellSorted : Signature → List ℕ → Formula → Type 0
  IsWellSorted signature scope verum = Unit {0}
  IsWellSorted signature scope falsum = Unit {0}
  IsWellSorted signature scope (atom p ts) = (p < length signature.predicates) × AllFit signature scope (row_of (argument_sorts signature.predicates) p) ts
  IsWellSorted signature scope (equal a b) = AreComparable signature scope a b
  IsWellSorted signature scope (less a b) = Fits signature scope integer_sort a × Fits signature scope integer_sort b
  IsWellSorted signature scope (negation f) = IsWellSorted signature scope f
  IsWellSorted signature scope (all_of fs) = AreWellSorted signature scope fs
  IsWellSorted signature scope (any_of fs) = AreWellSorted signature scope fs
  IsWellSorted signature scope (implies f g) = IsWellSorted signature scope f × IsWellSorted signature scope g
  IsWellSorted signature scope (iff f g) = IsWellSorted signature scope f × IsWellSorted signature scope g
  IsWellSorted signature scope (for_all s f) = (s < length signature.sorts) × IsWellSorted signature (s ∷ scope) f
  IsWellSorted signature scope (exists s f) = (s < length signature.sorts) × IsWellSorted signature (s ∷ scope) f

  pub AreWellSorted : Signature → List ℕ → Formulas → Type 0
  AreWellSorted signature scope no_formulas = Unit {0}
  AreWellSorted signature scope (formula f fs) = IsWellSorted signature scope f × AreWellSorted signature scope fs
