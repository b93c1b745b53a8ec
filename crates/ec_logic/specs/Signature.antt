-- What a file declares: sorts, constants, events, fluents and predicates, by number in the order of their declaration.
use Rattle.std.specs.Prelude.{ℕ, zero, suc, ◌==◌, ◌||◌, ℤ, Bool, false, List, length, Option, Some, None, slice_get}

-- What the values of a sort are: declared constants, whole numbers, ground events or ground fluents.
pub data Kind : Type 0 where
  plain : Kind
  integer : Kind
  event_kind : Kind
  fluent_kind : Kind

-- A parent is the number of a sort. Only a sort of whole numbers has a range, from its least to its greatest.
pub record SortRow : Type 0 where
  pub name : List ℕ
  pub kind : Kind
  pub parent : Option ℕ
  pub range : Option (ℤ × ℤ)

-- A constant and the number of the sort that it is declared of.
pub record ConstantRow : Type 0 where
  pub name : List ℕ
  pub sort : ℕ

-- An event, a fluent or a predicate, with the sorts of its arguments. Only a fluent may be noninertial.
pub record SymbolRow : Type 0 where
  pub name : List ℕ
  pub sorts : List ℕ
  pub noninertial : Bool

-- The built-in sorts and predicates stand first. manual_release leaves the fluents' release at the least time open,
-- time_diff has a narrative tell changes.
pub record Signature : Type 0 where
  pub sorts : List SortRow
  pub constants : List ConstantRow
  pub events : List SymbolRow
  pub fluents : List SymbolRow
  pub predicates : List SymbolRow
  pub manual_release : Bool
  pub time_diff : Bool

-- the numbers of the built-in sorts: boolean, integer, time, offset, event, fluent
abbrev pub integer_sort : ℕ
integer_sort = 1

abbrev pub time_sort : ℕ
time_sort = 2

abbrev pub event_sort : ℕ
event_sort = 4

abbrev pub fluent_sort : ℕ
fluent_sort = 5

-- the numbers of the built-in predicates
abbrev pub holds_at : ℕ
holds_at = 0

abbrev pub released_at : ℕ
released_at = 1

abbrev pub happens : ℕ
happens = 2

abbrev pub initiates : ℕ
initiates = 3

abbrev pub terminates : ℕ
terminates = 4

abbrev pub releases : ℕ
releases = 5

-- how many predicates are built in
abbrev pub built_in : ℕ
built_in = 6

-- a sort's parent, if it has one
abbrev pub parent_of : Signature → ℕ → Option ℕ
parent_of signature s = parent_in (slice_get signature.sorts s)
  where
    parent_in : Option SortRow → Option ℕ
    parent_in None = None
    parent_in (Some row) = row.parent

abbrev pub has_parent : (ℕ → Bool) → Option ℕ → Bool
has_parent test None = false
has_parent test (Some parent) = test parent

-- whether a sort is another, or has it as an ancestor within so many steps
abbrev pub descends : Signature → ℕ → ℕ → ℕ → Bool
descends signature zero r s = r == s
descends signature (suc steps) r s = (r == s) || has_parent (λ parent. descends signature steps parent s) (parent_of signature r)

-- whether a sort is another or has it as an ancestor
abbrev pub is_within : Signature → ℕ → ℕ → Bool
is_within signature r s = descends signature (length signature.sorts) r s
