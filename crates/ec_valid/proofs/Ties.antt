-- What binds the names of a book to the numbers of its signature, where no declaration has a fault.
use Rattle.std.proofs.Common.{◌≡◌, ℕ, ◌<◌, ◌≤◌, ◌^◌, Bool, true, List, [], ◌∷◌, length, map, Some, slice_get, option_map}
use Rattle.std.specs.List.{AllByRecursion}
use Rattle.ec_logic.specs.Signature.{Signature, Kind, integer, event_kind, fluent_kind, ConstantRow, integer_sort, event_sort, fluent_sort, is_within}
use Rattle.ec_logic.specs.Universe.{argument_sorts, row_of}
use Rattle.ec_logic.specs.Valid.{sort_passes, range_of}
use Rattle.ec_names.specs.Names.{Names, constant_role, event_role, fluent_role, predicate_role, SymbolEntry, symbol_named, range_named, is_below, kind_of, sort_of_variable, sort_number, symbol_number, word_integer, word_event, word_fluent}
use Rattle.ec_declare.specs.Faults.{is_known}
use Rattle.ec_declare.specs.Signatures.{ends_of}
use Rattle.ec_walk.specs.Kinds.{greater_end}

-- A constant has one known sort, and its row has that sort's number.
pub record IsConstant (names : Names) (signature : Signature) (n : List ℕ) (entry : SymbolEntry) : Type 0 where
  pub sort : List ℕ
  pub sorts : entry.sorts ≡ sort ∷ []
  pub known : is_known names sort ≡ true
  pub row : ConstantRow
  pub there : slice_get signature.constants (symbol_number constant_role names n) ≡ Some row
  pub row_sort : row.sort ≡ sort_number names sort

pub record Ties (names : Names) (signature : Signature) : Type 0 where
  pub known : (s : List ℕ) → is_known names s ≡ true → sort_number names s < length signature.sorts
  pub kinds : (s : List ℕ) (test : Kind → Bool) → is_known names s ≡ true → sort_passes (λ row. test row.kind) signature (sort_number names s) ≡ test (kind_of names s)
  pub ranges : (s : List ℕ) → is_known names s ≡ true → range_of signature (sort_number names s) ≡ option_map ends_of (range_named names s)
  pub within : (r s : List ℕ) → is_known names r ≡ true → is_known names s ≡ true → is_within signature (sort_number names r) (sort_number names s) ≡ is_below names r s
  pub integer_known : is_known names word_integer ≡ true
  pub integer_number : sort_number names word_integer ≡ integer_sort
  pub integer_kind : kind_of names word_integer ≡ integer
  pub event_known : is_known names word_event ≡ true
  pub fluent_known : is_known names word_fluent ≡ true
  pub event_number : (s : List ℕ) → kind_of names s ≡ event_kind → sort_number names s ≡ event_sort
  pub fluent_number : (s : List ℕ) → kind_of names s ≡ fluent_kind → sort_number names s ≡ fluent_sort
  pub variables : (v s : List ℕ) → sort_of_variable names v ≡ Some s → is_known names s ≡ true
  pub small : (s : List ℕ) → is_known names s ≡ true → greater_end (range_named names s) ≤ 2 ^ 62
  -- symbols
  pub constants : (n : List ℕ) (entry : SymbolEntry) → symbol_named names n ≡ Some entry → entry.role ≡ constant_role → IsConstant names signature n entry
  pub events : (n : List ℕ) (entry : SymbolEntry) → symbol_named names n ≡ Some entry → entry.role ≡ event_role
      → (symbol_number event_role names n < length signature.events) × (row_of (argument_sorts signature.events) (symbol_number event_role names n) ≡ map (sort_number names) entry.sorts)
  pub fluents : (n : List ℕ) (entry : SymbolEntry) → symbol_named names n ≡ Some entry → entry.role ≡ fluent_role
      → (symbol_number fluent_role names n < length signature.fluents) × (row_of (argument_sorts signature.fluents) (symbol_number fluent_role names n) ≡ map (sort_number names) entry.sorts)
  pub predicates : (n : List ℕ) (entry : SymbolEntry) → symbol_named names n ≡ Some entry → entry.role ≡ predicate_role
      → (symbol_number predicate_role names n < length signature.predicates) × (row_of (argument_sorts signature.predicates) (symbol_number predicate_role names n) ≡ map (sort_number names) entry.sorts)
  pub arguments : (n : List ℕ) (entry : SymbolEntry) → symbol_named names n ≡ Some entry → AllByRecursion (λ s. is_known names s ≡ true) entry.sorts
