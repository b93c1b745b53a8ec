-- Faults by measures and by lengths.
use Rattle.std.proofs.Common.{◌≡◌, ℕ, suc, List, [], ◌∷◌, length, Bool, true, false, ◌&&◌, not, Option, Some, None, Result, IfOk, ℤ, codes, refl, ap, subst}
use Rattle.std.specs.Fmt.{signed_decimal}
use Rattle.ec_names.specs.Names.{Names, SymbolEntry, range_named, symbol_named}
use Rattle.ec_syntax.specs.Written.{Term, Terms}
use Rattle.ec_syntax.specs.declared.tree.Arg.{Arg}
use Rattle.ec_syntax.specs.View.{terms_of}
use Rattle.ec_walk.specs.declared.fault.Code.TheVariants.{Arithmetic, OutOfRange}
use Rattle.ec_walk.specs.declared.fault.Fault.{Fault}
use Rattle.ec_walk.specs.Kinds.{argument_sorts, bound, exceeds, is_fixed, value, is_in_range}
use Rattle.ec_walk.specs.Faults.{◌before◌, fault_where, number_fault, count, symbol_fault, name_fault, arguments_fault, sorts_of_arguments}
use Rattle.ec_walk.specs.Measures.{measure_of, unless, value_if, measured, measured_fault}

by_tests : (names : Names) (sort : List ℕ) (p r : Bool) (m : ℕ) (v : ℤ)
    → measured_fault names sort (unless p (measure_of m (value_if r v)))
    ≡ (fault_where p Arithmetic (codes "arithmetic") before fault_where (r && not (is_in_range (range_named names sort) v)) OutOfRange (signed_decimal v))
by_tests names sort true r m v = refl
by_tests names sort false true m v = refl
by_tests names sort false false m v = refl

pub measured_number : (names : Names) (sort : List ℕ) (t : Term) → measured_fault names sort (measured names t) ≡ number_fault names sort t
measured_number names sort t = by_tests names sort (exceeds names t) (is_fixed t) (bound names t) (value t)

pub count_terms : (args : List Arg) → count (terms_of args) ≡ length args
count_terms [] = refl
count_terms (a ∷ args) = ap suc (count_terms args)

-- ---- a declared name with its arguments

declared_fault : (of_atom : Bool) (names : Names) (scope : List (List ℕ)) (n : List ℕ) (ts : Terms) (e : SymbolEntry) (o : Option SymbolEntry) (k : ℕ) (first rest : Option Fault)
    → Some e ≡ o → count ts ≡ k → first ≡ symbol_fault of_atom n k e.role e.sorts → rest ≡ arguments_fault names scope (argument_sorts e.role e.sorts) ts
    → (first before rest) ≡ (name_fault of_atom n (count ts) o before arguments_fault names scope (sorts_of_arguments o) ts)
declared_fault of_atom names scope n ts e o k first rest is given f r = rw (← is, given, f, r) refl

-- the fault of the name, or that of the arguments where the name has none
pub application_refused : (of_atom : Bool) (names : Names) (scope : List (List ℕ)) (n : List ℕ) (args : List Arg) (e : SymbolEntry) (fault : Fault)
    → Some e ≡ symbol_named names n → Some fault ≡ symbol_fault of_atom n (length args) e.role e.sorts
    → Some fault ≡ (name_fault of_atom n (count (terms_of args)) (symbol_named names n) before arguments_fault names scope (sorts_of_arguments (symbol_named names n)) (terms_of args))
application_refused of_atom names scope n args e fault is f =
    declared_fault of_atom names scope n (terms_of args) e (symbol_named names n) (length args) (Some fault) _ is (count_terms args) f refl

pub application_walked : (of_atom : Bool) (names : Names) (scope : List (List ℕ)) (n : List ℕ) (args : List Arg) (e : SymbolEntry)
    → Some e ≡ symbol_named names n → None ≡ symbol_fault of_atom n (length args) e.role e.sorts
    → arguments_fault names scope (argument_sorts e.role e.sorts) (terms_of args)
    ≡ (name_fault of_atom n (count (terms_of args)) (symbol_named names n) before arguments_fault names scope (sorts_of_arguments (symbol_named names n)) (terms_of args))
application_walked of_atom names scope n args e is f =
    declared_fault of_atom names scope n (terms_of args) e (symbol_named names n) (length args) None _ is (count_terms args) f refl

pub if_ok_along : {E : Type 0} (r : Result (Option Fault) E) (x y : Option Fault) → x ≡ y → IfOk r (λ f. f ≡ x) → IfOk r (λ f. f ≡ y)
if_ok_along r x y e h = subst (λ z. IfOk r (λ f. f ≡ z)) e h
