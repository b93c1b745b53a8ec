-- What the declarations of a book say, by word. The built-in ones stand first, and the first declaration of a name counts.
use Rattle.std.specs.Prelude.{ℕ, zero, suc, ◌&&◌, ◌||◌, ℤ, Bool, true, false, not, nat_le, codes, List, [], ◌∷◌, ◌++◌, map, length, filter, Option, Some, None, if◌then◌else◌}
use Rattle.std.specs.List.{list_all, list_any, flat_map, find, position_or_len}
use Rattle.std.specs.Str.{bytes_eq}
use Rattle.ec_logic.specs.Signature.{Kind, plain, integer, event_kind, fluent_kind}
use Rattle.ec_syntax.specs.declared.statement.SortItem.{SortItem}
use Rattle.ec_syntax.specs.Written as w

pub data Role : Type 0 where
  constant_role : Role
  event_role : Role
  fluent_role : Role
  predicate_role : Role

pub record SortEntry : Type 0 where
  pub name : List ℕ
  pub parent : Option (List ℕ)

-- The sorts are those of the arguments; of a constant, its one sort.
pub record SymbolEntry : Type 0 where
  pub name : List ℕ
  pub role : Role
  pub sorts : List (List ℕ)

pub record RangeEntry : Type 0 where
  pub sort : List ℕ
  pub low : ℤ
  pub high : ℤ

-- Sorts, symbols and the names after `noninertial`, each once; the first range of each sort; the last choice of each option.
pub record Names : Type 0 where
  pub sorts : List SortEntry
  pub symbols : List SymbolEntry
  pub ranges : List RangeEntry
  pub noninertial : List (List ℕ)
  pub manual_release : Bool
  pub time_diff : Bool

-- ---- what a statement declares

abbrev pub sort_entry : List ℕ → Option (List ℕ) → SortEntry
sort_entry name parent = record { name = name; parent = parent }

abbrev pub symbol_entry : Role → List ℕ → List (List ℕ) → SymbolEntry
symbol_entry role name sorts = record { name = name; role = role; sorts = sorts }

abbrev pub range_entry : List ℕ → ℤ → ℤ → RangeEntry
range_entry sort low high = record { sort = sort; low = low; high = high }

abbrev pub item_entry : SortItem → SortEntry
item_entry item = sort_entry item.name item.parent

abbrev pub shape_entry : Role → w.Shape → SymbolEntry
shape_entry role shape = symbol_entry role shape.name shape.sorts

abbrev pub constant_entry : List ℕ → List ℕ → SymbolEntry
constant_entry sort name = symbol_entry constant_role name (sort ∷ [])

abbrev pub sorts_in : w.Content → List SortEntry
sorts_in (w.sorts items) = map item_entry items
sorts_in _ = []

abbrev pub symbols_in : w.Content → List SymbolEntry
symbols_in (w.constants sort names) = map (constant_entry sort) names
symbols_in (w.events shapes) = map (shape_entry event_role) shapes
symbols_in (w.fluents shapes) = map (shape_entry fluent_role) shapes
symbols_in (w.predicates shapes) = map (shape_entry predicate_role) shapes
symbols_in _ = []

abbrev pub ranges_in : w.Content → List RangeEntry
ranges_in (w.range sort low high) = range_entry sort low high ∷ []
ranges_in _ = []

abbrev pub noninertial_in : w.Content → List (List ℕ)
noninertial_in (w.noninertial names) = names
noninertial_in _ = []

-- an option of this name after a statement, where it was so before
abbrev pub choice_after : List ℕ → Bool → w.Content → Bool
choice_after option before (w.choice name on) = if bytes_eq name option then on else before
choice_after option before _ = before

-- ---- what is built in

abbrev pub word_integer : List ℕ
word_integer = codes "integer"

abbrev pub word_time : List ℕ
word_time = codes "time"

abbrev pub word_event : List ℕ
word_event = codes "event"

abbrev pub word_fluent : List ℕ
word_fluent = codes "fluent"

abbrev pub built_in_sorts : List SortEntry
built_in_sorts =
    sort_entry (codes "boolean") None
    ∷ sort_entry word_integer None
    ∷ sort_entry word_time (Some word_integer)
    ∷ sort_entry (codes "offset") (Some word_integer)
    ∷ sort_entry word_event None
    ∷ sort_entry word_fluent None
    ∷ []

abbrev pub built_in_symbols : List SymbolEntry
built_in_symbols =
    symbol_entry predicate_role (codes "HoldsAt") (word_fluent ∷ word_time ∷ [])
    ∷ symbol_entry predicate_role (codes "ReleasedAt") (word_fluent ∷ word_time ∷ [])
    ∷ symbol_entry predicate_role (codes "Happens") (word_event ∷ word_time ∷ [])
    ∷ symbol_entry predicate_role (codes "Initiates") (word_event ∷ word_fluent ∷ word_time ∷ [])
    ∷ symbol_entry predicate_role (codes "Terminates") (word_event ∷ word_fluent ∷ word_time ∷ [])
    ∷ symbol_entry predicate_role (codes "Releases") (word_event ∷ word_fluent ∷ word_time ∷ [])
    ∷ []

-- ---- the names of a book

abbrev pub is_among : List ℕ → List (List ℕ) → Bool
is_among word words = list_any (bytes_eq word) words

-- the items whose name is none of those before them, where these names stand before all
abbrev pub firsts_after : {X : Type 0} → (X → List ℕ) → List (List ℕ) → List X → List X
firsts_after name before [] = []
firsts_after name before (x ∷ xs) = if is_among (name x) before then firsts_after name before xs else x ∷ firsts_after name (before ++ name x ∷ []) xs

abbrev pub sort_name : SortEntry → List ℕ
sort_name entry = entry.name

abbrev pub symbol_name : SymbolEntry → List ℕ
symbol_name entry = entry.name

abbrev pub range_sort : RangeEntry → List ℕ
range_sort entry = entry.sort

abbrev pub itself : List ℕ → List ℕ
itself word = word

abbrev pub placed_content : w.Placed → w.Content
placed_content placed = placed.statement.content

-- what statements say, each for itself, joined in their order
abbrev pub joined : {X : Type 0} → (w.Content → List X) → List w.Placed → List X
joined says statements = flat_map (λ placed. says (placed_content placed)) statements

abbrev pub last_choice : List ℕ → Bool → List w.Placed → Bool
last_choice option before [] = before
last_choice option before (placed ∷ statements) = last_choice option (choice_after option before (placed_content placed)) statements

abbrev pub names_of : List w.Placed → Names
names_of statements = record {
  sorts = firsts_after sort_name [] (built_in_sorts ++ joined sorts_in statements);
  symbols = firsts_after symbol_name [] (built_in_symbols ++ joined symbols_in statements);
  ranges = firsts_after range_sort [] (joined ranges_in statements);
  noninertial = firsts_after itself [] (joined noninertial_in statements);
  manual_release = last_choice (codes "manualrelease") false statements;
  time_diff = last_choice (codes "timediff") true statements;
}

-- ---- look-ups

-- the first item of this name
abbrev pub named : {X : Type 0} → (X → List ℕ) → List X → List ℕ → Option X
named name xs word = find (λ x. bytes_eq word (name x)) xs

-- the place of the first item of this name, or the number of the items
abbrev pub place_of : {X : Type 0} → (X → List ℕ) → List X → List ℕ → ℕ
place_of name xs word = position_or_len (bytes_eq word) (map name xs)

abbrev pub sort_named : Names → List ℕ → Option SortEntry
sort_named names word = named sort_name names.sorts word

abbrev pub symbol_named : Names → List ℕ → Option SymbolEntry
symbol_named names word = named symbol_name names.symbols word

abbrev pub range_named : Names → List ℕ → Option RangeEntry
range_named names sort = named range_sort names.ranges sort

abbrev pub is_noninertial : Names → List ℕ → Bool
is_noninertial names word = is_among word names.noninertial

-- ---- sorts

abbrev pub parent_in : Option SortEntry → Option (List ℕ)
parent_in None = None
parent_in (Some entry) = entry.parent

-- the parent with which a sort is declared first
abbrev pub parent_of : Names → List ℕ → Option (List ℕ)
parent_of names sort = parent_in (sort_named names sort)

abbrev pub has_parent : (List ℕ → Bool) → Option (List ℕ) → Bool
has_parent test None = false
has_parent test (Some parent) = test parent

-- whether a sort is another, or has it as an ancestor within so many steps
abbrev pub descends : Names → ℕ → List ℕ → List ℕ → Bool
descends names zero r s = bytes_eq r s
descends names (suc steps) r s = bytes_eq r s || has_parent (λ parent. descends names steps parent s) (parent_of names r)

-- whether a sort is another or has it as an ancestor
abbrev pub is_below : Names → List ℕ → List ℕ → Bool
is_below names r s = descends names (length names.sorts) r s

abbrev pub is_own_ancestor : Names → List ℕ → Bool
is_own_ancestor names sort = has_parent (λ parent. is_below names parent sort) (parent_of names sort)

abbrev pub is_integer_sort : Names → List ℕ → Bool
is_integer_sort names sort = is_below names sort word_integer

abbrev pub is_reified_sort : List ℕ → Bool
is_reified_sort sort = bytes_eq sort word_event || bytes_eq sort word_fluent

abbrev pub kind_of : Names → List ℕ → Kind
kind_of names sort =
    if bytes_eq sort word_event then event_kind
    else if bytes_eq sort word_fluent then fluent_kind
    else if is_integer_sort names sort then integer
    else plain

-- a sort isn't of whole numbers, or has a range
abbrev pub is_ranged : Names → List ℕ → Bool
is_ranged names sort = not (is_integer_sort names sort) || is_among sort (map range_sort names.ranges)

-- ---- variables

abbrev pub is_digit : ℕ → Bool
is_digit b = nat_le 48 b && nat_le b 57

-- whether a word is a name with digits or nothing behind it
abbrev pub spells : List ℕ → List ℕ → Bool
spells word [] = list_all is_digit word
spells [] (b ∷ name) = false
spells (c ∷ word) (b ∷ name) = bytes_eq (c ∷ []) (b ∷ []) && spells word name

-- whether a name spells a word and none of these is longer and spells it too
abbrev pub spells_longest : List (List ℕ) → List ℕ → List ℕ → Bool
spells_longest names word name = spells word name && list_all (λ other. not (spells word other) || nat_le (length other) (length name)) names

abbrev pub sort_words : Names → List (List ℕ)
sort_words names = map sort_name names.sorts

-- the longest sort name that, with digits or nothing behind it, spells a variable
abbrev pub sort_of_variable : Names → List ℕ → Option (List ℕ)
sort_of_variable names variable = find (spells_longest (sort_words names) variable) (sort_words names)

-- ---- numbers

abbrev pub is_role : Role → Role → Bool
is_role constant_role constant_role = true
is_role event_role event_role = true
is_role fluent_role fluent_role = true
is_role predicate_role predicate_role = true
is_role _ _ = false

-- the symbols of one role, in order
abbrev pub symbols_of : Role → List SymbolEntry → List SymbolEntry
symbols_of role entries = filter (λ (entry : SymbolEntry). is_role role entry.role) entries

abbrev pub sort_number : Names → List ℕ → ℕ
sort_number names word = place_of sort_name names.sorts word

-- the place of a symbol among those of one role; the built-in predicates are 0 to 5
abbrev pub symbol_number : Role → Names → List ℕ → ℕ
symbol_number role names word = place_of symbol_name (symbols_of role names.symbols) word
