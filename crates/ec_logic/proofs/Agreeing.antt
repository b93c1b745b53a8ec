-- Truth depends only on the predicates that occur.
use Rattle.std.proofs.Common.{◌≡◌, ℕ, Bool, true, not, List, ◌∷◌, ℤ, refl, ap}
use Rattle.std.proofs.Math.Path.{fun_ext}
use Rattle.std.specs.List.{list_all, list_any}
use Rattle.ec_logic.specs.Tree.{Formula, verum, falsum, atom, equal, less, negation, all_of, any_of, implies, iff, for_all, exists, Formulas, no_formulas, formula}
use Rattle.ec_logic.specs.Universe.{Universe}
use Rattle.ec_logic.specs.Value.{values}
use Rattle.ec_logic.specs.Place.{kept_values}
use Rattle.ec_logic.specs.Truth.{Structure, truth, all_true, any_true}
use Rattle.ec_logic.specs.ClauseTree.{only_has, only_have}
use Rattle.ec_logic.proofs.Tests.{and_parts}

module _ (universe : Universe) (m n : Structure) (test : ℕ → Bool) (agree : (p : ℕ) (vs : List ℤ) → test p ≡ true → m p vs ≡ n p vs) where
  mutual
    pub truth_agrees : (env : List ℤ) (f : Formula) → only_has test f ≡ true → truth universe m env f ≡ truth universe n env f
    truth_agrees env verum h = refl
    truth_agrees env falsum h = refl
    truth_agrees env (atom p ts) h = agree p (values universe env ts) h
    truth_agrees env (equal a b) h = refl
    truth_agrees env (less a b) h = refl
    truth_agrees env (negation f) h = ap not (truth_agrees env f h)
    truth_agrees env (all_of fs) h = all_true_agrees env fs h
    truth_agrees env (any_of fs) h = any_true_agrees env fs h
    truth_agrees env (implies f g) h = let both = and_parts (only_has test f) (only_has test g) h in rw (truth_agrees env f both.0, truth_agrees env g both.1) refl
    truth_agrees env (iff f g) h = let both = and_parts (only_has test f) (only_has test g) h in rw (truth_agrees env f both.0, truth_agrees env g both.1) refl
    truth_agrees env (for_all s f) h = ap (λ t. list_all t (kept_values universe env s f)) (fun_ext (λ v. truth_agrees (v ∷ env) f h))
    truth_agrees env (exists s f) h = ap (λ t. list_any t (kept_values universe env s f)) (fun_ext (λ v. truth_agrees (v ∷ env) f h))

    pub all_true_agrees : (env : List ℤ) (fs : Formulas) → only_have test fs ≡ true → all_true universe m env fs ≡ all_true universe n env fs
    all_true_agrees env no_formulas h = refl
    all_true_agrees env (formula f fs) h = let both = and_parts (only_has test f) (only_have test fs) h in rw (truth_agrees env f both.0, all_true_agrees env fs both.1) refl

    pub any_true_agrees : (env : List ℤ) (fs : Formulas) → only_have test fs ≡ true → any_true universe m env fs ≡ any_true universe n env fs
    any_true_agrees env no_formulas h = refl
    any_true_agrees env (formula f fs) h = let both = and_parts (only_has test f) (only_have test fs) h in rw (truth_agrees env f both.0, any_true_agrees env fs both.1) refl
