-- A formula without a fault nests no more than sixteen binders.
use Rattle.std.proofs.Common.{◌≡◌, ℕ, zero, suc, ◌+◌, ◌<◌, ◌≤◌, Bool, true, false, nat_le, List, [], ◌∷◌, length, take, codes, Option, Some, None, refl, subst, arith}
use Rattle.std.proofs.lemmas.Bool.Decides.{nat_tests}
use Rattle.ec_names.specs.Names.{Names}
use Rattle.ec_syntax.specs.Written as w
use Rattle.ec_syntax.specs.Written.{Formula, Formulas}
use Rattle.ec_walk.specs.declared.fault.Code.{Code}
use Rattle.ec_walk.specs.declared.fault.Code.TheVariants.{Binders}
use Rattle.ec_walk.specs.declared.fault.Fault.{Fault}
use Rattle.ec_walk.specs.Faults.{◌before◌, fault_where, variable_fault, binder_fault, binders_fault, opened, formula_fault, formulas_fault}
use Rattle.ec_walk.specs.Variables.{closed_variables, free_variables}
use Rattle.ec_walk.specs.Nested.{IsNested, AreNested}
use Rattle.ec_walk.proofs.ScopeLemmas.{length_opened}

-- no fault stands first, and none behind
pub none_first : (x y : Option Fault) → None ≡ (x before y) → None ≡ x
none_first None y e = refl
none_first (Some f) y e = absurd cc

pub none_behind : (x y : Option Fault) → None ≡ (x before y) → None ≡ y
none_behind None y e = e
none_behind (Some f) y e = absurd cc

pub test_fails : (b : Bool) (code : Code) (word : List ℕ) → None ≡ fault_where b code word → b ≡ false
test_fails true code word e = absurd cc
test_fails false code word e = refl

pub room_for_binder : (names : Names) (outside : ℕ) (v : List ℕ) → None ≡ binder_fault names outside v → outside < 16
room_for_binder names outside v e =
    let full : nat_le 16 outside ≡ false = test_fails (nat_le 16 outside) Binders (codes "binders") (none_behind (variable_fault names v) _ e) in
    grind (arith, nat_tests)

room_for_binders : (names : Names) (outside : ℕ) (vs : List (List ℕ)) → outside ≤ 16 → None ≡ binders_fault names outside vs → outside + length vs ≤ 16
room_for_binders names outside [] few e = omega arith
room_for_binders names outside (v ∷ vs) few e =
    let room = room_for_binder names outside v (none_first _ _ e) in
    let rest = room_for_binders names (suc outside) vs (omega arith) (none_behind (binder_fault names outside v) _ e) in
    omega arith

mutual
  pub nested : (names : Names) (scope : List (List ℕ)) (f : Formula) → length scope ≤ 16 → None ≡ formula_fault names scope f → IsNested (length scope) f
  nested names scope (w.atom n ts) few e = tt
  nested names scope (w.compare op a b) few e = tt
  nested names scope (w.not f) few e = nested names scope f few e
  nested names scope (w.and fs) few e = all_nested names scope fs few e
  nested names scope (w.or fs) few e = all_nested names scope fs few e
  nested names scope (w.implies f g) few e = (nested names scope f few (none_first _ _ e), nested names scope g few (none_behind (formula_fault names scope f) _ e))
  nested names scope (w.iff f g) few e = (nested names scope f few (none_first _ _ e), nested names scope g few (none_behind (formula_fault names scope f) _ e))
  nested names scope (w.for_all vs f) few e =
      let room = room_for_binders names (length scope) vs few (none_first _ _ e) in
      (room, subst (λ n. IsNested n f) (length_opened scope vs) (nested names (opened scope vs) f (rw (length_opened scope vs) room) (none_behind (binders_fault names (length scope) vs) _ e)))
  nested names scope (w.exists vs f) few e =
      let room = room_for_binders names (length scope) vs few (none_first _ _ e) in
      (room, subst (λ n. IsNested n f) (length_opened scope vs) (nested names (opened scope vs) f (rw (length_opened scope vs) room) (none_behind (binders_fault names (length scope) vs) _ e)))

  pub all_nested : (names : Names) (scope : List (List ℕ)) (fs : Formulas) → length scope ≤ 16 → None ≡ formulas_fault names scope fs → AreNested (length scope) fs
  all_nested names scope w.no_formulas few e = tt
  all_nested names scope (w.formula f fs) few e = (nested names scope f few (none_first _ _ e), all_nested names scope fs few (none_behind (formula_fault names scope f) _ e))

taken_within : (n : ℕ) (vs : List (List ℕ)) → length (take n vs) ≤ n
taken_within zero vs = omega arith
taken_within (suc n) [] = omega arith
taken_within (suc n) (v ∷ vs) = let h = taken_within n vs in omega arith

pub few_closed : (f : Formula) → length (opened [] (closed_variables f)) ≤ 16
few_closed f = let h = taken_within 16 (free_variables f) in rw (length_opened [] (closed_variables f)) (omega arith)
