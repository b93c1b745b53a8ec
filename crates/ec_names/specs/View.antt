-- What the tables of the names stand for.
use Rattle.std.specs.Prelude.{◌≡◌, ℕ, suc, ◌<◌, ◌^◌, Bool, List, [], ◌∷◌, ◌++◌, map, length, Option, if◌then◌else◌}
use Rattle.ec_names.specs.Names.{Names, Role, constant_role, event_role, fluent_role, predicate_role, SortEntry, SymbolEntry, RangeEntry, sort_entry, symbol_entry, range_entry, symbols_of, is_among, firsts_after}
use Rattle.ec_names.specs.declared.symbol.Role.{Role as RoleCode}
use Rattle.ec_names.specs.declared.symbol.Role.TheVariants as code
use Rattle.ec_names.specs.declared.symbol.Symbol.{Symbol}
use Rattle.ec_names.specs.declared.symbol.Counts.{Counts}
use Rattle.ec_names.specs.declared.range.Range.{Range}

abbrev pub role_of : RoleCode → Role
role_of code.Constant = constant_role
role_of code.Event = event_role
role_of code.Fluent = fluent_role
role_of code.Predicate = predicate_role

abbrev pub sort_of : List ℕ × Option (List ℕ) → SortEntry
sort_of entry = sort_entry entry.0 entry.1

-- the symbol of this name
abbrev pub named_symbol : List ℕ → Symbol → SymbolEntry
named_symbol name symbol = symbol_entry (role_of symbol.role) name symbol.sorts.items

abbrev pub symbol_of : List ℕ × Symbol → SymbolEntry
symbol_of entry = named_symbol entry.0 entry.1

-- the range of the sort of this name
abbrev pub named_range : List ℕ → Range → RangeEntry
named_range sort range = range_entry sort range.low range.high

abbrev pub range_of : List ℕ × Range → RangeEntry
range_of entry = named_range entry.0 entry.1

abbrev pub sorts_of : List (List ℕ × Option (List ℕ)) → List SortEntry
sorts_of entries = map sort_of entries

abbrev pub symbols_in_table : List (List ℕ × Symbol) → List SymbolEntry
symbols_in_table entries = map symbol_of entries

abbrev pub ranges_of : List (List ℕ × Range) → List RangeEntry
ranges_of entries = map range_of entries

-- how many symbols of a role there are
abbrev pub count_of : Role → List SymbolEntry → ℕ
count_of role entries = length (symbols_of role entries)

-- Each symbol has the number of those of its role before it, where these stand before all.
abbrev pub AreNumbered : List SymbolEntry → List (List ℕ × Symbol) → Type 0
AreNumbered before [] = Unit {0}
AreNumbered before (entry ∷ entries) = (entry.1.number ≡ count_of (role_of entry.1.role) before) × AreNumbered (before ++ symbol_of entry ∷ []) entries

-- the items kept so far with one more, which is left out where its name is there already
abbrev pub with_first : {X : Type 0} → (X → List ℕ) → List X → X → List X
with_first name kept x = if is_among (name x) (map name kept) then kept else kept ++ x ∷ []

-- the items kept so far, and then the first of each further name
abbrev pub continued : {X : Type 0} → (X → List ℕ) → List X → List X → List X
continued name kept xs = kept ++ firsts_after name (map name kept) xs

-- the count of one role
abbrev pub count_in : Counts → Role → ℕ
count_in counts constant_role = counts.constants
count_in counts event_role = counts.events
count_in counts fluent_role = counts.fluents
count_in counts predicate_role = counts.predicates

-- The counts are those of the symbols.
abbrev pub AreCounts : Counts → List SymbolEntry → Type 0
AreCounts counts entries = (role : Role) → count_in counts role ≡ count_of role entries

-- What the table of symbols keeps.
pub record IsSymbolTable (entries : List (List ℕ × Symbol)) (counts : Counts) : Type 0 where
  pub numbered : AreNumbered [] entries
  pub counted : AreCounts counts (symbols_in_table entries)

-- how many sorts or symbols there may be
abbrev pub IsFew : {X : Type 0} → List X → Type 0
IsFew xs = length xs < 2 ^ 31

-- the counts with one more of a role
abbrev pub with_one_more : Role → Counts → Counts
with_one_more constant_role counts = record counts { constants = suc counts.constants }
with_one_more event_role counts = record counts { events = suc counts.events }
with_one_more fluent_role counts = record counts { fluents = suc counts.fluents }
with_one_more predicate_role counts = record counts { predicates = suc counts.predicates }

abbrev pub names_view : List SortEntry → List SymbolEntry → List RangeEntry → List (List ℕ) → Bool → Bool → Names
names_view sorts symbols ranges noninertial manual_release time_diff =
    record { sorts = sorts; symbols = symbols; ranges = ranges; noninertial = noninertial; manual_release = manual_release; time_diff = time_diff }
