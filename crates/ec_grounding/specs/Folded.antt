-- The tree that a formula comes to under values of the open binders, once its terms, quantifiers and known atoms are worked out.
use Rattle.std.specs.Prelude.{ℕ, ℤ, Bool, true, false, not, List, [], ◌∷◌, map, int_lt}
use Rattle.std.specs.Ordering.{int_eq}
use Rattle.ec_logic.specs.Tree.{Formula, verum, falsum, atom, equal, less, negation, all_of, any_of, implies, iff, for_all, exists, Formulas, no_formulas, formula}
use Rattle.ec_logic.specs.Universe.{Universe}
use Rattle.ec_logic.specs.Value.{value, values}
use Rattle.ec_logic.specs.Place.{kept_values}
use Rattle.ec_folding.specs.Tree.{Tree, literal, under_sign}
use Rattle.ec_folding.specs.Join.{constant, join, conj, disj}

-- An atom is read as a constant, or as the literal of its number.
pub data Leaf : Type 0 where
  fixed : Bool → Leaf
  numbered : ℕ → Leaf

-- what each predicate with each tuple of arguments is read as
abbrev pub Reading : Type 0
Reading = ℕ → List ℤ → Leaf

-- an atom that is read so, or its negation
abbrev pub leaf_tree : Bool → Leaf → Tree
leaf_tree sign (fixed b) = constant (under_sign sign b)
leaf_tree sign (numbered a) = literal a sign

-- the truth of an atom that is read so, where the atoms of these numbers have these truths
abbrev pub leaf_truth : (ℕ → Bool) → Leaf → Bool
leaf_truth v (fixed b) = b
leaf_truth v (numbered a) = v a

-- The fold of a formula under a sign: the positive fold says that it is true, the negative one that it is false. All parts of an And are
-- joined by conj under the positive sign and by disj under the negative one, those of an Or the other way; a quantifier has a part for
-- each value over which its binder ranges, in the order of the domain.
abbrev mutual
  pub folded : Universe → Reading → List ℤ → Bool → Formula → Tree
  folded universe reading env sign verum = constant sign
  folded universe reading env sign falsum = constant (not sign)
  folded universe reading env sign (atom p ts) = leaf_tree sign (reading p (values universe env ts))
  folded universe reading env sign (equal a b) = constant (under_sign sign (int_eq (value universe env a) (value universe env b)))
  folded universe reading env sign (less a b) = constant (under_sign sign (int_lt (value universe env a) (value universe env b)))
  folded universe reading env sign (negation f) = folded universe reading env (not sign) f
  folded universe reading env sign (all_of fs) = join sign (folded_each universe reading env sign fs)
  folded universe reading env sign (any_of fs) = join (not sign) (folded_each universe reading env sign fs)
  folded universe reading env sign (implies f g) = join (not sign) (folded universe reading env (not sign) f ∷ folded universe reading env sign g ∷ [])
  folded universe reading env sign (iff f g) = conj (disj (folded universe reading env (not sign) f ∷ folded universe reading env true g ∷ []) ∷ disj (folded universe reading env sign f ∷ folded universe reading env false g ∷ []) ∷ [])
  folded universe reading env sign (for_all s f) = join sign (map (λ v. folded universe reading (v ∷ env) sign f) (kept_values universe env s f))
  folded universe reading env sign (exists s f) = join (not sign) (map (λ v. folded universe reading (v ∷ env) sign f) (kept_values universe env s f))

  pub folded_each : Universe → Reading → List ℤ → Bool → Formulas → List Tree
  folded_each universe reading env sign no_formulas = []
  folded_each universe reading env sign (formula f fs) = folded universe reading env sign f ∷ folded_each universe reading env sign fs
