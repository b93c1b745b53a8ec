-- The first fault of a sentence. The scope lists the variables that are bound where a part stands, the innermost first.
use Rattle.std.specs.Prelude.{ℕ, suc, ◌==◌, nat_le, Bool, true, false, not, ◌&&◌, ◌||◌, if◌then◌else◌, codes, List, [], ◌∷◌, length, Option, Some, None}
use Rattle.ec_logic.specs.Signature.{integer}
use Rattle.ec_names.specs.Names.{Names, Role, constant_role, event_role, fluent_role, predicate_role, SymbolEntry, symbol_named, range_named, is_ranged, kind_of, is_among, sort_of_variable, word_integer}
use Rattle.ec_syntax.specs.declared.tree.Op.{Op}
use Rattle.ec_syntax.specs.declared.tree.Op.TheVariants.{Equal, Unequal, Less, AtMost, More, AtLeast}
use Rattle.ec_syntax.specs.Written.{Term, name, variable, number, sum, difference, product, negative, Terms, no_terms, term, Formula, atom, compare, and, or, implies, iff, for_all, exists, Formulas, no_formulas, formula}
use Rattle.ec_syntax.specs.Written as w
use Rattle.ec_walk.specs.declared.fault.Code.{Code}
use Rattle.ec_walk.specs.declared.fault.Code.TheVariants.{UnknownSort, NoRange, UnknownName, ArgumentCount, Misfit, OutOfRange, Arithmetic, Binders}
use Rattle.ec_walk.specs.declared.fault.Fault.{Fault}
use Rattle.ec_walk.specs.Kinds.{argument_sorts, kind_of_term, is_whole, are_alike, fits, exceeds, is_fixed, value, is_in_range, same_kind}
use Rattle.std.specs.Fmt.{signed_decimal}

-- the first of two faults
infixr 15 ◌before◌
abbrev pub ◌before◌ : Option Fault → Option Fault → Option Fault
(Some fault) before later = Some fault
None before later = later

-- a fault where a test holds
abbrev pub fault_where : Bool → Code → List ℕ → Option Fault
fault_where true code word = Some (record { code = code; name = word })
fault_where false code word = None

-- ---- variables

-- a variable of no sort, or of a sort of whole numbers without a range
abbrev pub sort_fault : Names → List ℕ → Option (List ℕ) → Option Fault
sort_fault names v None = fault_where true UnknownSort v
sort_fault names v (Some sort) = fault_where (not (is_ranged names sort)) NoRange sort

abbrev pub variable_fault : Names → List ℕ → Option Fault
variable_fault names v = sort_fault names v (sort_of_variable names v)

-- at most sixteen variables are bound at one time
abbrev pub binder_limit : ℕ
binder_limit = 16

-- A variable in use. One that isn't bound is a seventeenth free one.
abbrev pub use_fault : Names → List (List ℕ) → List ℕ → Option Fault
use_fault names scope v = variable_fault names v before fault_where (not (is_among v scope)) Binders (codes "binders")

-- a variable that is bound, where so many are bound outside
abbrev pub binder_fault : Names → ℕ → List ℕ → Option Fault
binder_fault names outside v = variable_fault names v before fault_where (nat_le binder_limit outside) Binders (codes "binders")

-- binders in the order written
abbrev pub binders_fault : Names → ℕ → List (List ℕ) → Option Fault
binders_fault names outside [] = None
binders_fault names outside (v ∷ vs) = binder_fault names outside v before binders_fault names (suc outside) vs

-- the scope inside binders, given in the order written
abbrev pub opened : List (List ℕ) → List (List ℕ) → List (List ℕ)
opened scope [] = scope
opened scope (v ∷ vs) = opened (v ∷ scope) vs

-- ---- names

abbrev pub count : Terms → ℕ
count no_terms = 0
count (term t ts) = suc (count ts)

abbrev pub is_predicate : Role → Bool
is_predicate constant_role = false
is_predicate event_role = false
is_predicate fluent_role = false
is_predicate predicate_role = true

abbrev pub same_test : Bool → Bool → Bool
same_test true b = b
same_test false b = not b

-- a declared name before its arguments, as the name of an atom or of a term
abbrev pub symbol_fault : Bool → List ℕ → ℕ → Role → List (List ℕ) → Option Fault
symbol_fault of_atom n given role sorts =
    fault_where (not (given == length (argument_sorts role sorts))) ArgumentCount n
    before fault_where (not (same_test of_atom (is_predicate role))) Misfit n

abbrev pub name_fault : Bool → List ℕ → ℕ → Option SymbolEntry → Option Fault
name_fault of_atom n given None = fault_where true UnknownName n
name_fault of_atom n given (Some entry) = symbol_fault of_atom n given entry.role entry.sorts

-- the sorts of a name's arguments
abbrev pub sorts_of_arguments : Option SymbolEntry → List (List ℕ)
sorts_of_arguments None = []
sorts_of_arguments (Some entry) = argument_sorts entry.role entry.sorts

-- ---- terms

-- a term of whole numbers as an argument of a sort
abbrev pub number_fault : Names → List ℕ → Term → Option Fault
number_fault names sort t =
    fault_where (exceeds names t) Arithmetic (codes "arithmetic")
    before fault_where (is_fixed t && not (is_in_range (range_named names sort) (value t))) OutOfRange (signed_decimal (value t))

-- an argument of a sort, once its parts have no fault
abbrev pub argument_fault : Names → List ℕ → Term → Option Fault
argument_fault names sort t =
    fault_where (not (fits names sort t)) Misfit sort
    before (if same_kind integer (kind_of names sort) then number_fault names sort t else None)

-- an operand of arithmetic, once its parts have no fault
abbrev pub operand_fault : Names → Term → Option Fault
operand_fault names t = fault_where (not (is_whole names t)) Misfit word_integer

-- A term's parts in the order written; each argument and each operand is judged before the next is walked.
abbrev mutual
  pub term_fault : Names → List (List ℕ) → Term → Option Fault
  term_fault names scope (name n ts) = name_fault false n (count ts) (symbol_named names n) before arguments_fault names scope (sorts_of_arguments (symbol_named names n)) ts
  term_fault names scope (variable v) = use_fault names scope v
  term_fault names scope (number n) = None
  term_fault names scope (sum a b) = (term_fault names scope a before operand_fault names a) before (term_fault names scope b before operand_fault names b)
  term_fault names scope (difference a b) = (term_fault names scope a before operand_fault names a) before (term_fault names scope b before operand_fault names b)
  term_fault names scope (product a b) = (term_fault names scope a before operand_fault names a) before (term_fault names scope b before operand_fault names b)
  term_fault names scope (negative a) = term_fault names scope a before operand_fault names a

  pub arguments_fault : Names → List (List ℕ) → List (List ℕ) → Terms → Option Fault
  arguments_fault names scope sorts no_terms = None
  arguments_fault names scope [] (term t ts) = None
  arguments_fault names scope (sort ∷ sorts) (term t ts) = (term_fault names scope t before argument_fault names sort t) before arguments_fault names scope sorts ts

-- ---- formulas

abbrev pub sign : Op → List ℕ
sign Equal = codes "="
sign Unequal = codes "!="
sign Less = codes "<"
sign AtMost = codes "<="
sign More = codes ">"
sign AtLeast = codes ">="

-- two terms may be equal if they stand for things of one kind; an order is one of whole numbers
abbrev pub are_comparable : Names → Op → Term → Term → Bool
are_comparable names Equal a b = are_alike (kind_of_term names a) (kind_of_term names b)
are_comparable names Unequal a b = are_alike (kind_of_term names a) (kind_of_term names b)
are_comparable names Less a b = is_whole names a && is_whole names b
are_comparable names AtMost a b = is_whole names a && is_whole names b
are_comparable names More a b = is_whole names a && is_whole names b
are_comparable names AtLeast a b = is_whole names a && is_whole names b

abbrev pub side_exceeds : Names → Term → Bool
side_exceeds names t = is_whole names t && exceeds names t

-- a comparison, once its sides have no fault
abbrev pub comparison_fault : Names → Op → Term → Term → Option Fault
comparison_fault names op a b =
    fault_where (not (are_comparable names op a b)) Misfit (sign op)
    before fault_where (side_exceeds names a || side_exceeds names b) Arithmetic (codes "arithmetic")

abbrev mutual
  pub formula_fault : Names → List (List ℕ) → Formula → Option Fault
  formula_fault names scope (atom n ts) = name_fault true n (count ts) (symbol_named names n) before arguments_fault names scope (sorts_of_arguments (symbol_named names n)) ts
  formula_fault names scope (compare op a b) = term_fault names scope a before term_fault names scope b before comparison_fault names op a b
  formula_fault names scope (w.not f) = formula_fault names scope f
  formula_fault names scope (and fs) = formulas_fault names scope fs
  formula_fault names scope (or fs) = formulas_fault names scope fs
  formula_fault names scope (implies f g) = formula_fault names scope f before formula_fault names scope g
  formula_fault names scope (iff f g) = formula_fault names scope f before formula_fault names scope g
  formula_fault names scope (for_all vs f) = binders_fault names (length scope) vs before formula_fault names (opened scope vs) f
  formula_fault names scope (exists vs f) = binders_fault names (length scope) vs before formula_fault names (opened scope vs) f

  pub formulas_fault : Names → List (List ℕ) → Formulas → Option Fault
  formulas_fault names scope no_formulas = None
  formulas_fault names scope (formula f fs) = formula_fault names scope f before formulas_fault names scope fs
