-- The sorts and predicates that every signature begins with.
use Rattle.std.specs.Prelude.{ℕ, ℤ, codes, false, List, [], ◌∷◌, Option, Some, None}
use Rattle.ec_logic.specs.Signature.{SortRow, SymbolRow, Kind, plain, integer, event_kind, fluent_kind, integer_sort, time_sort, event_sort, fluent_sort}

-- a sort's name, kind and parent
abbrev pub sort_row : List ℕ → Kind → Option ℕ → Option (ℤ × ℤ) → SortRow
sort_row name kind parent range = record { name = name; kind = kind; parent = parent; range = range }

-- the built-in sorts, where integer, time and offset have these ranges; boolean has no values
abbrev pub built_in_sorts : Option (ℤ × ℤ) → Option (ℤ × ℤ) → Option (ℤ × ℤ) → List SortRow
built_in_sorts integers times offsets =
    sort_row (codes "boolean") plain None None
    ∷ sort_row (codes "integer") integer None integers
    ∷ sort_row (codes "time") integer (Some integer_sort) times
    ∷ sort_row (codes "offset") integer (Some integer_sort) offsets
    ∷ sort_row (codes "event") event_kind None None
    ∷ sort_row (codes "fluent") fluent_kind None None
    ∷ []

abbrev pub predicate_row : List ℕ → List ℕ → SymbolRow
predicate_row name sorts = record { name = name; sorts = sorts; noninertial = false }

abbrev pub built_in_predicates : List SymbolRow
built_in_predicates =
    predicate_row (codes "HoldsAt") (fluent_sort ∷ time_sort ∷ [])
    ∷ predicate_row (codes "ReleasedAt") (fluent_sort ∷ time_sort ∷ [])
    ∷ predicate_row (codes "Happens") (event_sort ∷ time_sort ∷ [])
    ∷ predicate_row (codes "Initiates") (event_sort ∷ fluent_sort ∷ time_sort ∷ [])
    ∷ predicate_row (codes "Terminates") (event_sort ∷ fluent_sort ∷ time_sort ∷ [])
    ∷ predicate_row (codes "Releases") (event_sort ∷ fluent_sort ∷ time_sort ∷ [])
    ∷ []
