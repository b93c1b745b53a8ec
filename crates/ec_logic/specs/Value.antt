-- The value of a term, where the values of the open binders are given, the innermost first.
use Rattle.std.specs.Prelude.{ℤ, pos, ◌+ℤ◌, neg_ℤ, ◌*ℤ◌, Bool, true, false, ◌&&◌, List, [], ◌∷◌, slice_get, unwrap_or}
use Rattle.std.specs.Ordering.{int_eq}
use Rattle.ec_logic.specs.Tree.{Term, variable, int, constant, event, fluent, sum, difference, product, Terms, no_terms, term}
use Rattle.ec_logic.specs.Universe.{Universe, place_of}

-- A constant's value is its number, that of an event or a fluent its place among the ground ones.
abbrev mutual
  pub value : Universe → List ℤ → Term → ℤ
  value universe env (variable k) = unwrap_or (slice_get env k) (pos 0)
  value universe env (int z) = z
  value universe env (constant c) = pos c
  value universe env (event symbol ts) = place_of universe universe.events symbol (values universe env ts)
  value universe env (fluent symbol ts) = place_of universe universe.fluents symbol (values universe env ts)
  value universe env (sum a b) = value universe env a +ℤ value universe env b
  value universe env (difference a b) = value universe env a +ℤ neg_ℤ (value universe env b)
  value universe env (product a b) = value universe env a *ℤ value universe env b

  pub values : Universe → List ℤ → Terms → List ℤ
  values universe env no_terms = []
  values universe env (term t ts) = value universe env t ∷ values universe env ts

-- whether two tuples are the same
abbrev pub same_values : List ℤ → List ℤ → Bool
same_values [] [] = true
same_values (v ∷ vs) (w ∷ ws) = int_eq v w && same_values vs ws
same_values _ _ = false
