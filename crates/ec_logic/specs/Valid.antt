-- The signatures that a file can declare.
use Rattle.std.specs.Prelude.{ℕ, ◌≡◌, ◌≢◌, ◌<◌, ◌^◌, ◌==◌, ◌||◌, ◌&&◌, nat_le, ℤ, pos, neg_ℤ, int_le, Bool, true, false, List, [], ◌∷◌, ◌++◌, length, map, take, drop, All, AllPairs, Option, Some, None, slice_get}
use Rattle.std.specs.List.{list_all}
use Rattle.ec_logic.specs.Signature.{Signature, Kind, plain, integer, event_kind, fluent_kind, SortRow, ConstantRow, SymbolRow, integer_sort, time_sort, event_sort, fluent_sort, built_in, parent_of, has_parent, is_within}
use Rattle.ec_logic.specs.BuiltIn.{built_in_sorts, built_in_predicates}

-- ---- sorts by their number

abbrev pub row_range : Option SortRow → Option (ℤ × ℤ)
row_range None = None
row_range (Some row) = row.range

-- a sort's range, if it has one
abbrev pub range_of : Signature → ℕ → Option (ℤ × ℤ)
range_of signature s = row_range (slice_get signature.sorts s)

abbrev pub row_passes : (SortRow → Bool) → Option SortRow → Bool
row_passes test None = false
row_passes test (Some row) = test row

-- whether there is a sort of this number and its row passes a test
abbrev pub sort_passes : (SortRow → Bool) → Signature → ℕ → Bool
sort_passes test signature s = row_passes test (slice_get signature.sorts s)

abbrev pub kind_is_plain : Kind → Bool
kind_is_plain plain = true
kind_is_plain _ = false

abbrev pub kind_is_integer : Kind → Bool
kind_is_integer integer = true
kind_is_integer _ = false

abbrev pub kind_is_event : Kind → Bool
kind_is_event event_kind = true
kind_is_event _ = false

abbrev pub kind_is_fluent : Kind → Bool
kind_is_fluent fluent_kind = true
kind_is_fluent _ = false

-- the values of a reified sort are ground events or fluents
abbrev pub kind_is_reified : Kind → Bool
kind_is_reified kind = kind_is_event kind || kind_is_fluent kind

abbrev pub is_plain_sort : Signature → ℕ → Bool
is_plain_sort signature s = sort_passes (λ row. kind_is_plain row.kind) signature s

abbrev pub is_integer_sort : Signature → ℕ → Bool
is_integer_sort signature s = sort_passes (λ row. kind_is_integer row.kind) signature s

abbrev pub is_reified_sort : Signature → ℕ → Bool
is_reified_sort signature s = sort_passes (λ row. kind_is_reified row.kind) signature s

-- ---- a fact of each row

abbrev pub EachSort : Signature → (ℕ → SortRow → Type 0) → Type 0
EachSort signature P = (s : ℕ) (row : SortRow) → slice_get signature.sorts s ≡ Some row → P s row

abbrev pub EachConstant : Signature → (ConstantRow → Type 0) → Type 0
EachConstant signature P = (c : ℕ) (row : ConstantRow) → slice_get signature.constants c ≡ Some row → P row

abbrev pub EachSymbol : List SymbolRow → (SymbolRow → Type 0) → Type 0
EachSymbol rows P = (k : ℕ) (row : SymbolRow) → slice_get rows k ≡ Some row → P row

-- of each argument sort of each of these symbols
abbrev pub EachArgument : List SymbolRow → (ℕ → Type 0) → Type 0
EachArgument rows P = EachSymbol rows (λ row. (i s : ℕ) → slice_get row.sorts i ≡ Some s → P s)

-- ---- numbers, ranges and names

-- Each sort that a row names is one of the signature's.
pub record HasKnownSorts (signature : Signature) : Type 0 where
  pub parents : (s parent : ℕ) → parent_of signature s ≡ Some parent → parent < length signature.sorts
  pub constants : EachConstant signature (λ row. row.sort < length signature.sorts)
  pub events : EachArgument signature.events (λ s. s < length signature.sorts)
  pub fluents : EachArgument signature.fluents (λ s. s < length signature.sorts)
  pub predicates : EachArgument signature.predicates (λ s. s < length signature.sorts)

-- the greatest magnitude of a range's ends
abbrev pub range_limit : ℕ
range_limit = 1000000

-- a range that isn't empty and stays within the limit, or none
abbrev pub is_range : Option (ℤ × ℤ) → Bool
is_range None = true
is_range (Some range) = int_le (neg_ℤ (pos range_limit)) range.0 && int_le range.0 range.1 && int_le range.1 (pos range_limit)

abbrev pub has_range : Option (ℤ × ℤ) → Bool
has_range None = false
has_range (Some range) = true

-- a sort isn't of whole numbers, or has a range
abbrev pub IsRanged : Signature → ℕ → Type 0
IsRanged signature s = is_integer_sort signature s ≡ true → has_range (range_of signature s) ≡ true

abbrev pub is_letter : ℕ → Bool
is_letter b = (nat_le 65 b && nat_le b 90) || (nat_le 97 b && nat_le b 122)

-- a letter, a digit or `_`
abbrev pub is_word_byte : ℕ → Bool
is_word_byte b = is_letter b || (nat_le 48 b && nat_le b 57) || b == 95

-- a letter from A to Z, then letters, digits and `_`
abbrev pub is_upper_word : List ℕ → Bool
is_upper_word [] = false
is_upper_word (b ∷ bs) = nat_le 65 b && nat_le b 90 && list_all is_word_byte bs

abbrev pub symbol_names : List SymbolRow → List (List ℕ)
symbol_names rows = map (λ (row : SymbolRow). row.name) rows

-- the names of all constants, events, fluents and predicates
abbrev pub names_of : Signature → List (List ℕ)
names_of signature = map (λ (row : ConstantRow). row.name) signature.constants ++ symbol_names signature.events ++ symbol_names signature.fluents ++ symbol_names signature.predicates

-- a list of a signature has fewer than 2^31 items
abbrev pub IsListable : {X : Type 0} → List X → Type 0
IsListable xs = length xs < 2 ^ 31

pub record HasListableRows (signature : Signature) : Type 0 where
  pub sorts : IsListable signature.sorts
  pub constants : IsListable signature.constants
  pub events : IsListable signature.events
  pub fluents : IsListable signature.fluents
  pub predicates : IsListable signature.predicates
  pub event_sorts : EachSymbol signature.events (λ row. IsListable row.sorts)
  pub fluent_sorts : EachSymbol signature.fluents (λ row. IsListable row.sorts)
  pub predicate_sorts : EachSymbol signature.predicates (λ row. IsListable row.sorts)

-- ---- the signatures

-- The built-in sorts and predicates stand first, in their order.
pub record BeginsBuiltIn (signature : Signature) : Type 0 where
  pub sorts : take 6 signature.sorts ≡ built_in_sorts (range_of signature integer_sort) (range_of signature time_sort) (range_of signature 3)
  pub predicates : take built_in signature.predicates ≡ built_in_predicates

-- What a file can declare.
pub record IsSignature (signature : Signature) : Type 0 where
  pub built_in_first : BeginsBuiltIn signature
  pub known_sorts : HasKnownSorts signature
  -- no sort's parent has that sort as itself or as an ancestor
  pub no_parent_cycle : EachSort signature (λ s row. has_parent (λ parent. is_within signature parent s) row.parent ≡ false)
  -- a sort is of whole numbers exactly where it is `integer` or its parent is of whole numbers
  pub integer_kinds : EachSort signature (λ s row. kind_is_integer row.kind ≡ ((s == integer_sort) || has_parent (is_integer_sort signature) row.parent))
  -- the kinds of events and fluents are those of the two sorts alone, and neither is a parent
  pub event_kinds : EachSort signature (λ s row. kind_is_event row.kind ≡ (s == event_sort))
  pub fluent_kinds : EachSort signature (λ s row. kind_is_fluent row.kind ≡ (s == fluent_sort))
  pub reified_no_parent : EachSort signature (λ s row. has_parent (λ parent. (parent == event_sort) || (parent == fluent_sort)) row.parent ≡ false)
  -- only a sort of whole numbers has a range, which isn't empty and within the limit
  pub integer_ranges : EachSort signature (λ s row. has_range row.range ≡ true → kind_is_integer row.kind ≡ true)
  pub small_ranges : EachSort signature (λ s row. is_range row.range ≡ true)
  pub plain_constants : EachConstant signature (λ row. is_plain_sort signature row.sort ≡ true)
  pub unreified_event_arguments : EachArgument signature.events (λ s. is_reified_sort signature s ≡ false)
  pub unreified_fluent_arguments : EachArgument signature.fluents (λ s. is_reified_sort signature s ≡ false)
  -- an argument of whole numbers of a declared symbol has a range
  pub event_ranges : EachArgument signature.events (IsRanged signature)
  pub fluent_ranges : EachArgument signature.fluents (IsRanged signature)
  pub predicate_ranges : EachArgument (drop built_in signature.predicates) (IsRanged signature)
  -- where there is an event or a fluent, time has a range
  pub time_range : 0 < length (signature.events ++ signature.fluents) → has_range (range_of signature time_sort) ≡ true
  -- only a fluent is noninertial
  pub inertial_events : EachSymbol signature.events (λ row. row.noninertial ≡ false)
  pub inertial_predicates : EachSymbol signature.predicates (λ row. row.noninertial ≡ false)
  pub upper_names : All (λ name. is_upper_word name ≡ true) (names_of signature)
  pub distinct_names : AllPairs (λ a b. a ≢ b) (names_of signature)
  pub listable : HasListableRows signature
