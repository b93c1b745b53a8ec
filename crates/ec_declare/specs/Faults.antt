-- The first fault of a declaration, over what the declarations of the whole book say.
-- The words of a statement are taken in the order written, and at one word the tests in the order in which they stand here.
use Rattle.std.specs.Prelude.{ℕ, ℤ, pos, neg_ℤ, ◌+ℤ◌, int_le, is_some, Bool, true, false, not, ◌&&◌, ◌||◌, if◌then◌else◌, codes, List, [], ◌∷◌, Option, Some, None}
use Rattle.std.specs.Option.{option_eq, option_or}
use Rattle.std.specs.Cmp.Lexicographic.{pointwise}
use Rattle.std.specs.Ordering.{int_eq}
use Rattle.std.specs.Str.{bytes_eq}
use Rattle.ec_syntax.specs.declared.statement.SortItem.{SortItem}
use Rattle.ec_syntax.specs.Written as w
use Rattle.ec_names.specs.Names.{Names, Role, event_role, fluent_role, predicate_role, SortEntry, SymbolEntry, RangeEntry, sort_entry, constant_entry, shape_entry, range_entry, is_role, sort_named, symbol_named, range_named, is_integer_sort, is_reified_sort, is_own_ancestor, is_ranged, word_time, word_event, word_fluent}
use Rattle.ec_declare.specs.declared.fault.Code.{Code}
use Rattle.ec_declare.specs.declared.fault.Code.TheVariants.{UnknownSort, OtherMeaning, NoRange, UnknownName, Misfit, LeftOut}
use Rattle.ec_declare.specs.declared.fault.Fault.{Fault}

-- ---- faults in turn

abbrev pub fault_at : Code → List ℕ → Fault
fault_at code name = record { code = code; name = name }

-- a fault where a test holds, and else what follows
abbrev pub refused_if : Bool → Code → List ℕ → Option Fault → Option Fault
refused_if test code name next = if test then Some (fault_at code name) else next

-- the first fault of several things
abbrev pub first_fault : {X : Type 0} → (X → Option Fault) → List X → Option Fault
first_fault fault [] = None
first_fault fault (x ∷ xs) = option_or (fault x) (first_fault fault xs)

-- ---- whether two declarations of a name say the same

abbrev pub same_words : List (List ℕ) → List (List ℕ) → Bool
same_words = pointwise bytes_eq

abbrev pub same_sort : SortEntry → SortEntry → Bool
same_sort a b = option_eq bytes_eq a.parent b.parent

abbrev pub same_symbol : SymbolEntry → SymbolEntry → Bool
same_symbol a b = is_role a.role b.role && same_words a.sorts b.sorts

abbrev pub same_range : RangeEntry → RangeEntry → Bool
same_range a b = int_eq a.low b.low && int_eq a.high b.high

-- whether the first declaration of a name, if there is one, says something else
abbrev pub differs : {X : Type 0} → (X → X → Bool) → X → Option X → Bool
differs same x None = false
differs same x (Some first) = not (same x first)

-- ---- sorts

abbrev pub is_known : Names → List ℕ → Bool
is_known names sort = is_some (sort_named names sort)

abbrev pub is_plain_sort : Names → List ℕ → Bool
is_plain_sort names sort = not (is_reified_sort sort) && not (is_integer_sort names sort)

-- a declared sort was declared otherwise, or is its own ancestor
abbrev pub declared_sort_fault : Names → SortItem → Option Fault
declared_sort_fault names item =
    refused_if (differs same_sort (sort_entry item.name item.parent) (sort_named names item.name) || is_own_ancestor names item.name) OtherMeaning item.name None

-- a parent is unknown, or reified
abbrev pub parent_fault : Names → Option (List ℕ) → Option Fault
parent_fault names None = None
parent_fault names (Some parent) =
    refused_if (not (is_known names parent)) UnknownSort parent (
    refused_if (is_reified_sort parent) Misfit parent None)

abbrev pub sort_item_fault : Names → SortItem → Option Fault
sort_item_fault names item = option_or (declared_sort_fault names item) (parent_fault names item.parent)

-- ---- symbols

-- the sort of constants is unknown, or not plain
abbrev pub constant_sort_fault : Names → List ℕ → Option Fault
constant_sort_fault names sort =
    refused_if (not (is_known names sort)) UnknownSort sort (
    refused_if (not (is_plain_sort names sort)) Misfit sort None)

-- a symbol was declared otherwise
abbrev pub symbol_fault : Names → SymbolEntry → Option Fault
symbol_fault names entry = refused_if (differs same_symbol entry (symbol_named names entry.name)) OtherMeaning entry.name None

-- events and fluents have no reified arguments
abbrev pub refuses_reified : Role → Bool
refuses_reified role = is_role role event_role || is_role role fluent_role

-- an argument sort is unknown, of whole numbers without a range, or reified in an event or a fluent
abbrev pub argument_fault : Names → Role → List ℕ → Option Fault
argument_fault names role sort =
    refused_if (not (is_known names sort)) UnknownSort sort (
    refused_if (not (is_ranged names sort)) NoRange sort (
    refused_if (refuses_reified role && is_reified_sort sort) Misfit sort None))

abbrev pub shape_fault : Names → Role → w.Shape → Option Fault
shape_fault names role shape = option_or (symbol_fault names (shape_entry role shape)) (first_fault (argument_fault names role) shape.sorts)

-- the word `event` or `fluent` where time has no range
abbrev pub time_fault : Names → Option Fault
time_fault names = refused_if (not (is_ranged names word_time)) NoRange word_time None

-- ---- other declarations

abbrev pub is_fluent : Option SymbolEntry → Bool
is_fluent None = false
is_fluent (Some entry) = is_role entry.role fluent_role

-- a name after `noninertial` is unknown, or no fluent
abbrev pub noninertial_fault : Names → List ℕ → Option Fault
noninertial_fault names name =
    refused_if (not (is_some (symbol_named names name))) UnknownName name (
    refused_if (not (is_fluent (symbol_named names name))) Misfit name None)

-- the greatest magnitude of a range's ends
abbrev pub range_limit : ℤ
range_limit = pos 1000000

-- the greatest distance from the first time to the last
abbrev pub time_span : ℤ
time_span = pos 511

abbrev pub is_small_range : ℤ → ℤ → Bool
is_small_range low high = int_le (neg_ℤ range_limit) low && int_le low high && int_le high range_limit

-- the range of time has at most 512 values
abbrev pub fits_sort : List ℕ → ℤ → ℤ → Bool
fits_sort sort low high = not (bytes_eq sort word_time) || int_le high (low +ℤ time_span)

-- the sort of a range is unknown, has another range before, this range is out of the limits, or the sort isn't one of whole numbers
abbrev pub range_fault : Names → List ℕ → ℤ → ℤ → Option Fault
range_fault names sort low high =
    refused_if (not (is_known names sort)) UnknownSort sort (
    refused_if (differs same_range (range_entry sort low high) (range_named names sort)) OtherMeaning sort (
    refused_if (not (is_small_range low high && fits_sort sort low high)) NoRange sort (
    refused_if (not (is_integer_sort names sort)) Misfit sort None)))

-- `reified sort` has no effect for what is reified in any case
abbrev pub is_reifiable : List ℕ → Bool
is_reifiable sort = bytes_eq sort word_event || bytes_eq sort word_fluent || bytes_eq sort (codes "predicate") || bytes_eq sort (codes "function")

abbrev pub reified_fault : List ℕ → Option Fault
reified_fault sort = refused_if (not (is_reifiable sort)) LeftOut sort None

-- ---- the first fault of a statement that is no sentence

-- the sort of constants, and then each constant
abbrev pub constants_fault : Names → List ℕ → List (List ℕ) → Option Fault
constants_fault names sort constants = option_or (constant_sort_fault names sort) (first_fault (λ name. symbol_fault names (constant_entry sort name)) constants)

-- the word `event` or `fluent`, and then each shape
abbrev pub timed_shapes_fault : Names → Role → List w.Shape → Option Fault
timed_shapes_fault names role shapes = option_or (time_fault names) (first_fault (shape_fault names role) shapes)

abbrev pub declaration_fault : Names → w.Content → Option Fault
declaration_fault names (w.sorts items) = first_fault (sort_item_fault names) items
declaration_fault names (w.reified sort) = reified_fault sort
declaration_fault names (w.constants sort constants) = constants_fault names sort constants
declaration_fault names (w.events shapes) = timed_shapes_fault names event_role shapes
declaration_fault names (w.fluents shapes) = timed_shapes_fault names fluent_role shapes
declaration_fault names (w.predicates shapes) = first_fault (shape_fault names predicate_role) shapes
declaration_fault names (w.noninertial symbols) = first_fault (noninertial_fault names) symbols
declaration_fault names (w.range sort low high) = range_fault names sort low high
declaration_fault names (w.load file) = None
declaration_fault names (w.choice name on) = None
declaration_fault names w.ignored = None
declaration_fault names (w.completion label predicate) = None
declaration_fault names (w.left_out word) = refused_if true LeftOut word None
declaration_fault names (w.sentence label f) = None
