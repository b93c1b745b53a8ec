-- The tree of a shifted formula, with values put in, is its tree.
use Rattle.std.proofs.Common.{◌≡◌, Bool, true, false, not, List, ◌∷◌, ◌++◌, length, ℤ, map, refl, ap}
use Rattle.std.proofs.Math.Path.{fun_ext}
use Rattle.ec_logic.specs.Tree.{Formula, verum, falsum, atom, equal, less, negation, all_of, any_of, implies, iff, for_all, exists, Formulas, no_formulas, formula}
use Rattle.ec_logic.specs.Universe.{Universe}
use Rattle.ec_logic.specs.Place.{kept_values}
use Rattle.ec_logic.specs.Shift.{shifted, shifted_each}
use Rattle.ec_logic.specs.Truth.{Structure}
use Rattle.ec_logic.proofs.Shifting.{value-shifted, values-shifted, kept_values-shifted}
use Rattle.ec_folding.specs.Tree.{Tree}
use Rattle.ec_folding.specs.Join.{join}
use Rattle.ec_grounding.specs.Folded.{Reading, leaf_tree, folded, folded_each}

module _ (universe : Universe) (reading : Reading) (new env : List ℤ) where
  -- the lemmas on values ask for a structure, and do not read it
  nothing : Structure
  nothing p vs = false

  mutual
    pub folded-shifted : (outer : List ℤ) (sign : Bool) (f : Formula) → folded universe reading (outer ++ (new ++ env)) sign (shifted (length outer) (length new) f) ≡ folded universe reading (outer ++ env) sign f
    folded-shifted outer sign verum = refl
    folded-shifted outer sign falsum = refl
    folded-shifted outer sign (atom p ts) = ap (λ vs. leaf_tree sign (reading p vs)) (values-shifted universe nothing new env outer ts)
    folded-shifted outer sign (equal a b) = rw (value-shifted universe nothing new env outer a, value-shifted universe nothing new env outer b) refl
    folded-shifted outer sign (less a b) = rw (value-shifted universe nothing new env outer a, value-shifted universe nothing new env outer b) refl
    folded-shifted outer sign (negation f) = folded-shifted outer (not sign) f
    folded-shifted outer sign (all_of fs) = ap (join sign) (each-shifted outer sign fs)
    folded-shifted outer sign (any_of fs) = ap (join (not sign)) (each-shifted outer sign fs)
    folded-shifted outer sign (implies f g) = rw (folded-shifted outer (not sign) f, folded-shifted outer sign g) refl
    folded-shifted outer sign (iff f g) = rw (folded-shifted outer (not sign) f, folded-shifted outer true g, folded-shifted outer sign f, folded-shifted outer false g) refl
    folded-shifted outer sign (for_all s f) =
        rw (kept_values-shifted universe nothing new env outer s f) (ap (λ (tree : ℤ → Tree). join sign (map tree (kept_values universe (outer ++ env) s f))) (fun_ext (λ v. folded-shifted (v ∷ outer) sign f)))
    folded-shifted outer sign (exists s f) =
        rw (kept_values-shifted universe nothing new env outer s f) (ap (λ (tree : ℤ → Tree). join (not sign) (map tree (kept_values universe (outer ++ env) s f))) (fun_ext (λ v. folded-shifted (v ∷ outer) sign f)))

    each-shifted : (outer : List ℤ) (sign : Bool) (fs : Formulas) → folded_each universe reading (outer ++ (new ++ env)) sign (shifted_each (length outer) (length new) fs) ≡ folded_each universe reading (outer ++ env) sign fs
    each-shifted outer sign no_formulas = refl
    each-shifted outer sign (formula f fs) = rw (folded-shifted outer sign f, each-shifted outer sign fs) refl
