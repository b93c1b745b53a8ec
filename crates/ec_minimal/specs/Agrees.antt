-- Two structures that agree on a predicate.
use Rattle.std.specs.Prelude.{ℕ, ◌≡◌, ◌+◌, ◌==◌, ◌&&◌, nat_le, nat_lt, Bool, false, not, if◌then◌else◌, List, ℤ, Option, Some}
use Rattle.std.specs.List.{list_any}
use Rattle.ec_logic.specs.Universe.{Universe}
use Rattle.ec_logic.specs.Atom.{structure_of}

-- Each tuple has the same truth in both.
pub record Agrees (universe : Universe) (a b : List Bool) (p : ℕ) : Type 0 where
  pub agrees : (vs : List ℤ) → structure_of universe a p vs ≡ structure_of universe b p vs

-- whether two truths are there and the same
abbrev pub same_truth : Option Bool → Option Bool → Bool
same_truth (Some a) (Some b) = if a then b else not b
same_truth _ _ = false

-- A structure that takes a predicate's extent from another, and is as before in all else.
pub record TakesExtent (universe : Universe) (source old new : List Bool) (p : ℕ) : Type 0 where
  pub takes : (q : ℕ) (vs : List ℤ) → structure_of universe new q vs ≡ (if q == p then structure_of universe source q vs else structure_of universe old q vs)

-- whether a number is one of so many from a first on
abbrev pub in_span : ℕ → ℕ → ℕ → Bool
in_span first count k = nat_le first k && nat_lt k (first + count)

-- The same of several predicates.
pub record TakesExtents (universe : Universe) (source old new : List Bool) (ps : List ℕ) : Type 0 where
  pub takes : (q : ℕ) (vs : List ℤ) → structure_of universe new q vs ≡ (if list_any (λ p. p == q) ps then structure_of universe source q vs else structure_of universe old q vs)
