-- At most sixteen binders nest in a sentence without a fault.
use Rattle.std.proofs.Common.{◌≡◌, ℕ, zero, suc, ◌+◌, ◌<◌, ◌≤◌, nat_le, Bool, true, false, List, [], ◌∷◌, length, take, codes, Option, Some, None, refl, arith}
use Rattle.std.proofs.lemmas.Bool.Decides.{nat_tests}
use Rattle.ec_logic.specs.Tree as tree
use Rattle.ec_logic.specs.Reach.{nesting, nesting_of}
use Rattle.ec_names.specs.Names.{Names}
use Rattle.ec_syntax.specs.declared.tree.Op.{Op}
use Rattle.ec_syntax.specs.declared.tree.Op.TheVariants.{Equal, Unequal, Less, AtMost, More, AtLeast}
use Rattle.ec_syntax.specs.Written.{Formula, atom, compare, and, or, implies, iff, for_all, exists, Formulas, no_formulas, formula}
use Rattle.ec_syntax.specs.Written as w
use Rattle.ec_walk.specs.declared.fault.Fault.{Fault}
use Rattle.ec_walk.specs.declared.fault.Code.{Code}
use Rattle.ec_walk.specs.declared.fault.Code.TheVariants.{Binders}
use Rattle.ec_walk.specs.Faults.{◌before◌, fault_where, binder_limit, variable_fault, binder_fault, binders_fault, opened, formula_fault, formulas_fault}
use Rattle.ec_walk.specs.Trees.{comparison, term_tree, quantified, formula_tree, formula_trees}
use Rattle.ec_walk.specs.Variables.{closed_variables, free_variables}
use Rattle.ec_walk.specs.Sentences.{sentence_fault, sentence_tree}

-- of two faults there is none where neither is one
pub first_none : (a b : Option Fault) → (a before b) ≡ None → a ≡ None
first_none None b h = refl
first_none (Some f) b h = cc

pub later_none : (a b : Option Fault) → (a before b) ≡ None → b ≡ None
later_none None b h = h
later_none (Some f) b h = cc

pub not_where : (test : Bool) (code : Code) (word : List ℕ) → fault_where test code word ≡ None → test ≡ false
not_where true code word h = cc
not_where false code word h = refl

comparison_flat : (op : Op) (a b : tree.Term) → nesting (comparison op a b) ≡ 0
comparison_flat Equal a b = refl
comparison_flat Unequal a b = refl
comparison_flat Less a b = refl
comparison_flat AtMost a b = refl
comparison_flat More a b = refl
comparison_flat AtLeast a b = refl

length-opened : (scope vs : List (List ℕ)) → length (opened scope vs) ≡ length scope + length vs
length-opened scope [] = omega arith
length-opened scope (v ∷ vs) = let h = length-opened (v ∷ scope) vs in omega (arith, h)

for_alls : (names : Names) (vs : List (List ℕ)) (f : tree.Formula) → nesting (quantified tree.for_all names vs f) ≡ nesting f + length vs
for_alls names [] f = omega arith
for_alls names (v ∷ vs) f = let h = for_alls names vs f in omega (arith, h)

existences : (names : Names) (vs : List (List ℕ)) (f : tree.Formula) → nesting (quantified tree.exists names vs f) ≡ nesting f + length vs
existences names [] f = omega arith
existences names (v ∷ vs) f = let h = existences names vs f in omega (arith, h)

-- binders without a fault find room
binders_fit : (names : Names) (outside : ℕ) (vs : List (List ℕ)) → outside ≤ 16 → binders_fault names outside vs ≡ None → outside + length vs ≤ 16
binders_fit names outside [] low h = omega (arith, low)
binders_fit names outside (v ∷ vs) low h =
    let here = first_none (binder_fault names outside v) (binders_fault names (suc outside) vs) h in
    let room = not_where (nat_le binder_limit outside) Binders (codes "binders") (later_none (variable_fault names v) (fault_where (nat_le binder_limit outside) Binders (codes "binders")) here) in
    let below : outside < 16 = grind (arith, nat_tests) in
    let more = binders_fit names (suc outside) vs (omega (arith, below)) (later_none (binder_fault names outside v) (binders_fault names (suc outside) vs) h) in
    omega (arith, more)

module _ (names : Names) where
  mutual
    pub nested : (scope : List (List ℕ)) (f : Formula) → length scope ≤ 16 → formula_fault names scope f ≡ None → nesting (formula_tree names scope f) + length scope ≤ 16
    nested scope (atom n ts) low h = omega (arith, low)
    nested scope (compare op a b) low h = let flat = comparison_flat op (term_tree names scope a) (term_tree names scope b) in omega (arith, low, flat)
    nested scope (w.not f) low h = nested scope f low h
    nested scope (and fs) low h = nested_each scope fs low h
    nested scope (or fs) low h = nested_each scope fs low h
    nested scope (implies f g) low h =
        let a = nested scope f low (first_none (formula_fault names scope f) (formula_fault names scope g) h) in
        let b = nested scope g low (later_none (formula_fault names scope f) (formula_fault names scope g) h) in
        omega (arith, a, b)
    nested scope (iff f g) low h =
        let a = nested scope f low (first_none (formula_fault names scope f) (formula_fault names scope g) h) in
        let b = nested scope g low (later_none (formula_fault names scope f) (formula_fault names scope g) h) in
        omega (arith, a, b)
    nested scope (for_all vs f) low h =
        let fits = binders_fit names (length scope) vs low (first_none (binders_fault names (length scope) vs) (formula_fault names (opened scope vs) f) h) in
        let size = length-opened scope vs in
        let inner = nested (opened scope vs) f (omega (arith, fits, size)) (later_none (binders_fault names (length scope) vs) (formula_fault names (opened scope vs) f) h) in
        let all = for_alls names vs (formula_tree names (opened scope vs) f) in
        omega (arith, inner, all, size)
    nested scope (exists vs f) low h =
        let fits = binders_fit names (length scope) vs low (first_none (binders_fault names (length scope) vs) (formula_fault names (opened scope vs) f) h) in
        let size = length-opened scope vs in
        let inner = nested (opened scope vs) f (omega (arith, fits, size)) (later_none (binders_fault names (length scope) vs) (formula_fault names (opened scope vs) f) h) in
        let all = existences names vs (formula_tree names (opened scope vs) f) in
        omega (arith, inner, all, size)

    nested_each : (scope : List (List ℕ)) (fs : Formulas) → length scope ≤ 16 → formulas_fault names scope fs ≡ None → nesting_of (formula_trees names scope fs) + length scope ≤ 16
    nested_each scope no_formulas low h = omega (arith, low)
    nested_each scope (formula f fs) low h =
        let a = nested scope f low (first_none (formula_fault names scope f) (formulas_fault names scope fs) h) in
        let b = nested_each scope fs low (later_none (formula_fault names scope f) (formulas_fault names scope fs) h) in
        omega (arith, a, b)

length-take : {A : Type 0} (n : ℕ) (xs : List A) → length (take n xs) ≤ n
length-take zero xs = omega arith
length-take (suc n) [] = omega arith
length-take (suc n) (x ∷ xs) = let h = length-take n xs in omega (arith, h)

-- a sentence without a fault
pub sentence_nested : (names : Names) (f : Formula) → sentence_fault names f ≡ None → nesting (sentence_tree names f) ≤ 16
sentence_nested names f h =
    let closed = closed_variables f in
    let few = length-take binder_limit (free_variables f) in
    let size = length-opened [] closed in
    let inner = nested names (opened [] closed) f (omega (arith, few, size)) h in
    let all = for_alls names closed (formula_tree names (opened [] closed) f) in
    omega (arith, inner, all, size)
