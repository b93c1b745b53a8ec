-- Sorts, sizes, domains and names of the signatures, worked out by hand.
use Rattle.std.proofs.Common.{◌≡◌, ℕ, ◌*◌, ◌^◌, min, ℤ, pos, negsuc, Bool, true, false, codes, List, [], ◌∷◌, length, map, Option, Some, None, option_map, slice_get, refl, ◌∙◌, ap}
use Rattle.ec_logic.specs.Signature.{Signature, SortRow, ConstantRow, SymbolRow, Kind, plain, integer, event_kind, fluent_kind, time_sort}
use Rattle.ec_logic.specs.Extent.{size_of}
use Rattle.ec_logic.specs.Universe.{universe_of, universe_with, extent_at, domain, tuples, is_constant_in}
use Rattle.theory_tables.specs.Samples.{small, wide}
use Rattle.theory_tables.proofs.WideSizes.{passing_all, so_many}

-- ---- the small signature: each sort's size, and its values

abbrev values_of : ℕ → ℕ × List ℤ
values_of s = (min (size_of (extent_at (universe_of (small false)) s)) (2 ^ 62), domain (universe_of (small false)) s)

domains : map values_of (0 ∷ 1 ∷ 2 ∷ 3 ∷ 4 ∷ 5 ∷ 6 ∷ 7 ∷ 8 ∷ [])
    ≡ (0, [])
    ∷ (0, [])
    ∷ (3, pos 1 ∷ pos 2 ∷ pos 3 ∷ [])
    ∷ (0, [])
    ∷ (7, pos 0 ∷ pos 1 ∷ pos 2 ∷ pos 3 ∷ pos 4 ∷ pos 5 ∷ pos 6 ∷ [])
    ∷ (8, pos 0 ∷ pos 1 ∷ pos 2 ∷ pos 3 ∷ pos 4 ∷ pos 5 ∷ pos 6 ∷ pos 7 ∷ [])
    ∷ (3, pos 0 ∷ pos 1 ∷ pos 2 ∷ [])
    ∷ (1, pos 1 ∷ [])
    ∷ (4, negsuc 0 ∷ pos 0 ∷ pos 1 ∷ pos 2 ∷ [])
    ∷ []
domains = refl

-- ---- what the values of its sorts are, and the sorts' ranges; the last three are not built in, and the last is no sort

abbrev kind_and_range : ℕ → Option (Kind × Option (ℤ × ℤ))
kind_and_range s = option_map (λ (row : SortRow). (row.kind, row.range)) (slice_get (small false).sorts s)

sorts : map kind_and_range (0 ∷ 1 ∷ 2 ∷ 4 ∷ 5 ∷ 7 ∷ 8 ∷ 9 ∷ [])
    ≡ Some (plain, None)
    ∷ Some (integer, None)
    ∷ Some (integer, Some (pos 1, pos 3))
    ∷ Some (event_kind, None)
    ∷ Some (fluent_kind, None)
    ∷ Some (plain, None)
    ∷ Some (integer, Some (negsuc 0, pos 2))
    ∷ None
    ∷ []
sorts = refl

time-sort : time_sort ≡ 2
time-sort = refl

-- ---- its constants, and whether they are agents, children and booleans

abbrev name_of : List ConstantRow → ℕ → Option (List ℕ)
name_of rows c = option_map (λ (row : ConstantRow). row.name) (slice_get rows c)

abbrev constant_row : ℕ → Option (List ℕ) × Bool × Bool × Bool
constant_row c = (name_of (small false).constants c, is_constant_in (small false) 6 c, is_constant_in (small false) 7 c, is_constant_in (small false) 0 c)

constants : map constant_row (0 ∷ 1 ∷ 2 ∷ [])
    ≡ (Some (codes "James"), true, false, false)
    ∷ (Some (codes "Nell"), true, true, false)
    ∷ (Some (codes "Ada"), true, false, false)
    ∷ []
constants = refl

three-constants : length (small false).constants ≡ 3
three-constants = refl

-- ---- names and argument sorts of symbols, and which of the fluents are noninertial

abbrev name_and_sorts : List SymbolRow → ℕ → Option (List ℕ × List ℕ)
name_and_sorts rows symbol = option_map (λ (row : SymbolRow). (row.name, row.sorts)) (slice_get rows symbol)

abbrev is_noninertial : List SymbolRow → ℕ → Option Bool
is_noninertial rows symbol = option_map (λ (row : SymbolRow). row.noninertial) (slice_get rows symbol)

predicates : map (name_and_sorts (small true).predicates) (3 ∷ 6 ∷ [])
    ≡ Some (codes "Initiates", 4 ∷ 5 ∷ 2 ∷ [])
    ∷ Some (codes "Near", 6 ∷ 8 ∷ [])
    ∷ []
predicates = refl

events : map (name_and_sorts (small true).events) (1 ∷ []) ≡ Some (codes "Set", 7 ∷ 8 ∷ []) ∷ []
events = refl

fluents : map (name_and_sorts (small true).fluents) (0 ∷ 1 ∷ 2 ∷ [])
    ≡ Some (codes "Awake", 6 ∷ [])
    ∷ Some (codes "Heard", 7 ∷ 8 ∷ [])
    ∷ Some (codes "Dark", [])
    ∷ []
fluents = refl

noninertial : map (is_noninertial (small true).fluents) (0 ∷ 1 ∷ 2 ∷ []) ≡ Some false ∷ Some true ∷ Some false ∷ []
noninertial = refl

abbrev counts_and_options : Signature → ℕ × ℕ × ℕ × Bool × Bool
counts_and_options s = (length s.predicates, length s.events, length s.fluents, s.manual_release, s.time_diff)

counts : counts_and_options (small true) ≡ (7, 2, 3, true, true)
counts = refl

-- ---- the wide signature: its event has 2,000,001 to the third power of ground terms, and counting stops at 2^62

-- where there are so many ground events and fluents
events-with : (n m : ℕ) → size_of (extent_at (universe_with wide n m) 4) ≡ n
events-with n m = passing_all 0 n

fluents-with : (n m : ℕ) → size_of (extent_at (universe_with wide n m) 5) ≡ m
fluents-with n m = passing_all 0 m

times-counted : min (size_of (extent_at (universe_of wide) 2)) (2 ^ 62) ≡ 2
times-counted = refl

events-counted : min (size_of (extent_at (universe_of wide) 4)) (2 ^ 62) ≡ 2 ^ 62
events-counted = ap (λ n. min n (2 ^ 62)) (ap (λ u. size_of (extent_at u 4)) so_many ∙ events-with 8000012000006000001 4000004000001)

fluents-counted : min (size_of (extent_at (universe_of wide) 5)) (2 ^ 62) ≡ 4000004000001
fluents-counted = ap (λ n. min n (2 ^ 62)) (ap (λ u. size_of (extent_at u 5)) so_many ∙ fluents-with 8000012000006000001 4000004000001)

numbers-counted : min (size_of (extent_at (universe_of wide) 6)) (2 ^ 62) ≡ 2000001
numbers-counted = refl

-- ---- tuples of its values

no-argument : min (tuples (universe_of wide) []) (2 ^ 62) ≡ 1
no-argument = refl

two-numbers : min (tuples (universe_of wide) (6 ∷ 6 ∷ [])) (2 ^ 62) ≡ 4000004000001
two-numbers = refl

event-and-time : min (tuples (universe_of wide) (4 ∷ 2 ∷ [])) (2 ^ 62) ≡ 2 ^ 62
event-and-time = ap (λ n. min (n * 2) (2 ^ 62)) (ap (λ u. size_of (extent_at u 4)) so_many ∙ events-with 8000012000006000001 4000004000001)

event-and-nothing : min (tuples (universe_of wide) (4 ∷ 1 ∷ [])) (2 ^ 62) ≡ 0
event-and-nothing = ap (λ n. min (n * 0) (2 ^ 62)) (ap (λ u. size_of (extent_at u 4)) so_many ∙ events-with 8000012000006000001 4000004000001)
