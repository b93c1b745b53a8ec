-- The domains over which formulas are read: the values of each sort, and the argument sorts of each symbol.
use Rattle.std.specs.Prelude.{ℕ, zero, suc, ◌+◌, ◌*◌, ◌-◌, ◌/◌, ◌%◌, nat_lt, ℤ, pos, negsuc, ◌+ℤ◌, neg_ℤ, Bool, true, false, List, [], ◌∷◌, length, map, Option, Some, None, slice_get, unwrap_or}
use Rattle.std.specs.List.{range_with_len}
use Rattle.ec_logic.specs.Signature.{Signature, Kind, plain, integer, event_kind, fluent_kind, SortRow, ConstantRow, SymbolRow, is_within}
use Rattle.ec_logic.specs.Extent.{Extent, numbers, members, domain_of, size_of, rank, value_at, natural}

-- Extents by the number of the sort; argument sorts by the number of the event, the fluent or the predicate.
pub record Universe : Type 0 where
  pub extents : List Extent
  pub events : List (List ℕ)
  pub fluents : List (List ℕ)
  pub predicates : List (List ℕ)

abbrev pub no_values : Extent
no_values = members 0 (λ k. false)

abbrev pub extent_at : Universe → ℕ → Extent
extent_at universe s = unwrap_or (slice_get universe.extents s) no_values

-- the values of a sort, in order
abbrev pub domain : Universe → ℕ → List ℤ
domain universe s = domain_of (extent_at universe s)

-- the argument sorts of a symbol
abbrev pub row_of : List (List ℕ) → ℕ → List ℕ
row_of rows symbol = unwrap_or (slice_get rows symbol) []

-- ---- tuples of arguments, the first argument changing slowest

-- how many tuples these sorts have
abbrev pub tuples : Universe → List ℕ → ℕ
tuples universe [] = 1
tuples universe (s ∷ ss) = size_of (extent_at universe s) * tuples universe ss

-- the tuple at a place
abbrev pub tuple_at : Universe → List ℕ → ℕ → List ℤ
tuple_at universe [] k = []
tuple_at universe (s ∷ ss) k = value_at (extent_at universe s) (k / tuples universe ss) ∷ tuple_at universe ss (k % tuples universe ss)

-- a place among the values of a sort, before a place among so many tuples of the sorts that follow
abbrev pub ranked : ℕ → Option ℕ → Option ℕ → Option ℕ
ranked count (Some k) (Some rest) = Some (k * count + rest)
ranked count (Some k) None = None
ranked count None rest = None

-- the place of a tuple, if each of its values is in its domain
abbrev pub tuple_rank : Universe → List ℕ → List ℤ → Option ℕ
tuple_rank universe [] [] = Some 0
tuple_rank universe (s ∷ ss) (v ∷ vs) = ranked (tuples universe ss) (rank (extent_at universe s) v) (tuple_rank universe ss vs)
tuple_rank universe _ _ = None

-- ---- ground terms and atoms: by symbol, then by tuple

-- how many there are of the symbols before this one
abbrev pub before : Universe → List (List ℕ) → ℕ → ℕ
before universe [] k = 0
before universe (ss ∷ rows) zero = 0
before universe (ss ∷ rows) (suc k) = tuples universe ss + before universe rows k

-- the place of a symbol with its arguments, or -1 where an argument is outside its domain
abbrev pub place_of : Universe → List (List ℕ) → ℕ → List ℤ → ℤ
place_of universe rows symbol vs = placed (tuple_rank universe (row_of rows symbol) vs)
  where
    placed : Option ℕ → ℤ
    placed (Some k) = pos (before universe rows symbol + k)
    placed None = negsuc 0

abbrev pub next_symbol : ℕ → Bool → ℕ → ℕ × ℕ → ℕ × ℕ
next_symbol count true k later = (0, k)
next_symbol count false k later = (suc later.0, later.1)

-- the symbol to which a place belongs, and the place among its tuples
abbrev pub symbol_at : Universe → List (List ℕ) → ℕ → ℕ × ℕ
symbol_at universe [] k = (0, k)
symbol_at universe (ss ∷ rows) k = next_symbol (tuples universe ss) (nat_lt k (tuples universe ss)) k (symbol_at universe rows (k - tuples universe ss))

-- ---- the universe of a signature

abbrev pub argument_sorts : List SymbolRow → List (List ℕ)
argument_sorts rows = map (λ (row : SymbolRow). row.sorts) rows

-- the numbers of a range, or none where there is no range
abbrev pub extent_of_range : Option (ℤ × ℤ) → Extent
extent_of_range None = numbers (pos 0) 0
extent_of_range (Some (low, high)) = numbers low (unwrap_or (natural (high +ℤ neg_ℤ low +ℤ pos 1)) 0)

-- whether a constant is of a sort or of one of its subsorts
abbrev pub is_constant_in : Signature → ℕ → ℕ → Bool
is_constant_in signature s c = declared_in (slice_get signature.constants c)
  where
    declared_in : Option ConstantRow → Bool
    declared_in None = false
    declared_in (Some constant) = is_within signature constant.sort s

-- the extent of a sort, where there are so many ground events and fluents
abbrev pub extent_of : Signature → ℕ → ℕ → ℕ → Extent
extent_of signature events fluents s = by_row (slice_get signature.sorts s)
  where
    by_kind : SortRow → Kind → Extent
    by_kind row plain = members (length signature.constants) (is_constant_in signature s)
    by_kind row integer = extent_of_range row.range
    by_kind row event_kind = members events (λ k. true)
    by_kind row fluent_kind = members fluents (λ k. true)

    by_row : Option SortRow → Extent
    by_row None = no_values
    by_row (Some row) = by_kind row row.kind

abbrev pub universe_with : Signature → ℕ → ℕ → Universe
universe_with signature events fluents = record {
  extents = map (extent_of signature events fluents) (range_with_len 0 (length signature.sorts));
  events = argument_sorts signature.events;
  fluents = argument_sorts signature.fluents;
  predicates = argument_sorts signature.predicates;
}

-- how many ground terms these symbols have; their arguments are constants and whole numbers
abbrev pub ground_terms : Signature → List (List ℕ) → ℕ
ground_terms signature rows = before (universe_with signature 0 0) rows (length rows)

abbrev pub universe_of : Signature → Universe
universe_of signature = universe_with signature (ground_terms signature (argument_sorts signature.events)) (ground_terms signature (argument_sorts signature.fluents))
