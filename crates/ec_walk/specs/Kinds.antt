-- What a term is by itself: its sort, the kind of thing that it stands for, the bound of its magnitude and its value.
use Rattle.std.specs.Prelude.{ℕ, ◌+◌, ◌*◌, ◌^◌, max, nat_lt, nat_abs, ℤ, pos, ◌+ℤ◌, ◌*ℤ◌, neg_ℤ, int_le, Bool, true, false, ◌&&◌, ◌||◌, List, [], Option, Some, None, option_map, slice_get}
use Rattle.ec_logic.specs.Signature.{Kind, plain, integer, event_kind, fluent_kind}
use Rattle.ec_names.specs.Names.{Names, Role, constant_role, event_role, fluent_role, predicate_role, SymbolEntry, RangeEntry, kind_of, is_below, symbol_named, range_named, sort_of_variable}
use Rattle.ec_syntax.specs.Written.{Term, name, variable, number, sum, difference, product, negative}

-- ---- sorts and kinds

-- the argument sorts of a symbol; a constant has none
abbrev pub argument_sorts : Role → List (List ℕ) → List (List ℕ)
argument_sorts constant_role sorts = []
argument_sorts event_role sorts = sorts
argument_sorts fluent_role sorts = sorts
argument_sorts predicate_role sorts = sorts

-- the sort of a constant
abbrev pub constant_sort : Role → List (List ℕ) → Option (List ℕ)
constant_sort constant_role sorts = slice_get sorts 0
constant_sort event_role sorts = None
constant_sort fluent_role sorts = None
constant_sort predicate_role sorts = None

abbrev pub sort_of_symbol : Option SymbolEntry → Option (List ℕ)
sort_of_symbol None = None
sort_of_symbol (Some entry) = constant_sort entry.role entry.sorts

-- the sort of a constant or a variable
abbrev pub sort_of_term : Names → Term → Option (List ℕ)
sort_of_term names (name n ts) = sort_of_symbol (symbol_named names n)
sort_of_term names (variable v) = sort_of_variable names v
sort_of_term names (number n) = None
sort_of_term names (sum a b) = None
sort_of_term names (difference a b) = None
sort_of_term names (product a b) = None
sort_of_term names (negative a) = None

-- a constant stands for a thing of a plain sort, or for nothing
abbrev pub plain_alone : Option Kind → Option Kind
plain_alone (Some plain) = Some plain
plain_alone _ = None

abbrev pub kind_by_role : Names → Role → List (List ℕ) → Option Kind
kind_by_role names constant_role sorts = plain_alone (option_map (kind_of names) (slice_get sorts 0))
kind_by_role names event_role sorts = Some event_kind
kind_by_role names fluent_role sorts = Some fluent_kind
kind_by_role names predicate_role sorts = None

abbrev pub kind_of_symbol : Names → Option SymbolEntry → Option Kind
kind_of_symbol names None = None
kind_of_symbol names (Some entry) = kind_by_role names entry.role entry.sorts

-- whether a term stands for a thing of a plain sort, a whole number, an event or a fluent, if for any
abbrev pub kind_of_term : Names → Term → Option Kind
kind_of_term names (name n ts) = kind_of_symbol names (symbol_named names n)
kind_of_term names (variable v) = option_map (kind_of names) (sort_of_variable names v)
kind_of_term names (number n) = Some integer
kind_of_term names (sum a b) = Some integer
kind_of_term names (difference a b) = Some integer
kind_of_term names (product a b) = Some integer
kind_of_term names (negative a) = Some integer

abbrev pub same_kind : Kind → Kind → Bool
same_kind plain plain = true
same_kind integer integer = true
same_kind event_kind event_kind = true
same_kind fluent_kind fluent_kind = true
same_kind _ _ = false

abbrev pub is_of_kind : Kind → Option Kind → Bool
is_of_kind kind None = false
is_of_kind kind (Some other) = same_kind kind other

abbrev pub is_whole : Names → Term → Bool
is_whole names t = is_of_kind integer (kind_of_term names t)

-- whether a term stands for something, and two stand for things of one kind
abbrev pub are_alike : Option Kind → Option Kind → Bool
are_alike None other = false
are_alike (Some kind) other = is_of_kind kind other

abbrev pub has_sort_below : Names → List ℕ → Option (List ℕ) → Bool
has_sort_below names sort None = false
has_sort_below names sort (Some own) = is_below names own sort

-- Whether a term fits an argument of a sort: of a plain sort, a variable or constant of it or of a sort below it; else whatever
-- is a whole number, an event or a fluent.
abbrev pub fits_kind : Names → List ℕ → Term → Kind → Bool
fits_kind names sort t plain = has_sort_below names sort (sort_of_term names t)
fits_kind names sort t integer = is_of_kind integer (kind_of_term names t)
fits_kind names sort t event_kind = is_of_kind event_kind (kind_of_term names t)
fits_kind names sort t fluent_kind = is_of_kind fluent_kind (kind_of_term names t)

abbrev pub fits : Names → List ℕ → Term → Bool
fits names sort t = fits_kind names sort t (kind_of names sort)

-- ---- bounds

-- the greater magnitude of a range's ends
abbrev pub greater_end : Option RangeEntry → ℕ
greater_end None = 0
greater_end (Some range) = max (nat_abs range.low) (nat_abs range.high)

abbrev pub bound_of_sort : Names → Option (List ℕ) → ℕ
bound_of_sort names None = 0
bound_of_sort names (Some sort) = greater_end (range_named names sort)

-- the bound of the magnitude of a term of whole numbers
abbrev pub bound : Names → Term → ℕ
bound names (name n ts) = 0
bound names (variable v) = bound_of_sort names (sort_of_variable names v)
bound names (number n) = n
bound names (sum a b) = bound names a + bound names b
bound names (difference a b) = bound names a + bound names b
bound names (product a b) = bound names a * bound names b
bound names (negative a) = bound names a

abbrev pub is_over : ℕ → Bool
is_over n = nat_lt (2 ^ 62) n

-- whether the bound of a part of a term of whole numbers is over 2^62
abbrev pub exceeds : Names → Term → Bool
exceeds names (name n ts) = false
exceeds names (variable v) = is_over (bound_of_sort names (sort_of_variable names v))
exceeds names (number n) = is_over n
exceeds names (sum a b) = exceeds names a || exceeds names b || is_over (bound names a + bound names b)
exceeds names (difference a b) = exceeds names a || exceeds names b || is_over (bound names a + bound names b)
exceeds names (product a b) = exceeds names a || exceeds names b || is_over (bound names a * bound names b)
exceeds names (negative a) = exceeds names a

-- ---- values

-- whether a term of whole numbers has no variable
abbrev pub is_fixed : Term → Bool
is_fixed (name n ts) = true
is_fixed (variable v) = false
is_fixed (number n) = true
is_fixed (sum a b) = is_fixed a && is_fixed b
is_fixed (difference a b) = is_fixed a && is_fixed b
is_fixed (product a b) = is_fixed a && is_fixed b
is_fixed (negative a) = is_fixed a

-- the value of a term of whole numbers without variables
abbrev pub value : Term → ℤ
value (name n ts) = pos 0
value (variable v) = pos 0
value (number n) = pos n
value (sum a b) = value a +ℤ value b
value (difference a b) = value a +ℤ neg_ℤ (value b)
value (product a b) = value a *ℤ value b
value (negative a) = pos 0 +ℤ neg_ℤ (value a)

-- whether a number is in a range; where there is none, no number is
abbrev pub is_in_range : Option RangeEntry → ℤ → Bool
is_in_range None v = false
is_in_range (Some range) v = int_le range.low v && int_le v range.high
