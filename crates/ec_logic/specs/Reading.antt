-- What is read of a formula under an environment is there: each variable has a value, each predicate is known, and no sum, difference or
-- product is past the limit, whatever values the binders take.
use Rattle.std.specs.Prelude.{◌<◌, ◌≤◌, ℤ, pos, nat_abs, List, ◌∷◌, length}
use Rattle.ec_logic.specs.Tree.{Term, variable, int, constant, event, fluent, sum, difference, product, Terms, no_terms, term, Formula, verum, falsum, atom, equal, less, negation, all_of, any_of, implies, iff, for_all, exists, Formulas, no_formulas, formula}
use Rattle.ec_logic.specs.Extent.{Extent}
use Rattle.ec_logic.specs.Signature.{Signature}
use Rattle.ec_logic.specs.Universe.{universe_of, extent_at}
use Rattle.ec_logic.specs.Value.{value}
use Rattle.ec_logic.specs.Turns.{IsValueOf}
use Rattle.ec_logic.specs.Bound.{bound_limit}

abbrev pub IsSmall : ℤ → Type 0
IsSmall z = nat_abs z ≤ bound_limit

abbrev mutual
  pub IsReadableTerm : Signature → List ℤ → Term → Type 0
  IsReadableTerm signature env (variable k) = k < length env
  IsReadableTerm signature env (int z) = Unit {0}
  IsReadableTerm signature env (constant c) = Unit {0}
  IsReadableTerm signature env (event symbol ts) = AreReadableTerms signature env ts
  IsReadableTerm signature env (fluent symbol ts) = AreReadableTerms signature env ts
  IsReadableTerm signature env (sum a b) = IsReadableTerm signature env a × IsReadableTerm signature env b × IsSmall (value (universe_of signature) env (sum a b))
  IsReadableTerm signature env (difference a b) = IsReadableTerm signature env a × IsReadableTerm signature env b × IsSmall (value (universe_of signature) env (difference a b))
  IsReadableTerm signature env (product a b) = IsReadableTerm signature env a × IsReadableTerm signature env b × IsSmall (value (universe_of signature) env (product a b))

  pub AreReadableTerms : Signature → List ℤ → Terms → Type 0
  AreReadableTerms signature env no_terms = Unit {0}
  AreReadableTerms signature env (term t ts) = IsReadableTerm signature env t × AreReadableTerms signature env ts

-- a fact of each value of an extent
abbrev pub AtEachValue : Extent → (ℤ → Type 0) → Type 0
AtEachValue extent P = (v : ℤ) → IsValueOf extent v → P v

-- The binders below a place are asked at 0 as well, where a place of an outer binder is tested.
abbrev mutual
  pub IsReadable : Signature → List ℤ → Formula → Type 0
  IsReadable signature env verum = Unit {0}
  IsReadable signature env falsum = Unit {0}
  IsReadable signature env (atom p ts) = (p < length signature.predicates) × AreReadableTerms signature env ts
  IsReadable signature env (equal a b) = IsReadableTerm signature env a × IsReadableTerm signature env b
  IsReadable signature env (less a b) = IsReadableTerm signature env a × IsReadableTerm signature env b
  IsReadable signature env (negation f) = IsReadable signature env f
  IsReadable signature env (all_of fs) = AreReadable signature env fs
  IsReadable signature env (any_of fs) = AreReadable signature env fs
  IsReadable signature env (implies f g) = IsReadable signature env f × IsReadable signature env g
  IsReadable signature env (iff f g) = IsReadable signature env f × IsReadable signature env g
  IsReadable signature env (for_all s f) = (s < length signature.sorts) × IsReadable signature (pos 0 ∷ env) f × AtEachValue (extent_at (universe_of signature) s) (λ v. IsReadable signature (v ∷ env) f)
  IsReadable signature env (exists s f) = (s < length signature.sorts) × IsReadable signature (pos 0 ∷ env) f × AtEachValue (extent_at (universe_of signature) s) (λ v. IsReadable signature (v ∷ env) f)

  pub AreReadable : Signature → List ℤ → Formulas → Type 0
  AreReadable signature env no_formulas = Unit {0}
  AreReadable signature env (formula f fs) = IsReadable signature env f × AreReadable signature env fs
