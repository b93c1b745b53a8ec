-- Which truths of a list are still to be blocked, as a table tells them by the digits of their lines.
use Rattle.std.specs.Prelude.{◌≡◌, ◌⊎◌, ℕ, ◌^◌, ◌<◌, Bool, List, [], length, Option, Some, nat_eq, All, Contains, slice_index_or}
use Rattle.std.specs.Cmp.Lexicographic.{pointwise}
use Rattle.std.specs.declared.alloc.Global.{Global}
use Rattle.std.specs.declared.vec.Vec.{Vec}
use Rattle.indexmap.specs.IndexMap.{get}
use Rattle.ec_clause.specs.Note.{Note, Blocked}
use Rattle.ec_log.specs.Digits.{digits_of}
use Rattle.ec_certificate.specs.Accepted.{forbids}
use Rattle.ec_checking.specs.declared.left.Left.{Left}

-- the place of a truth, by the digits of its line
abbrev pub Table : Type 0
Table = Vec ℕ Global → Option ℕ

abbrev pub same_bytes : Vec ℕ Global → Vec ℕ Global → Bool
same_bytes a b = pointwise nat_eq a.items b.items

abbrev pub table_of : Left → Table
table_of left = get same_bytes left.places

-- the truth at a place of a list
abbrev pub truth_at : List (List Bool) → ℕ → List Bool
truth_at truths place = slice_index_or truths place []

-- a note blocks this truth
abbrev pub IsBlockedIn : List Note → List Bool → Type 0
IsBlockedIn notes truth = Contains notes (Blocked (forbids truth))

-- the notes block each truth
abbrev pub Blocks : List Note → List (List Bool) → Type 0
Blocks notes truths = All (IsBlockedIn notes) truths

-- the truth at this place of the list has these digits, and no note blocks it
pub record IsOpen (truths : List (List Bool)) (notes : List Note) (digits : List ℕ) (place : ℕ) : Type 0 where
  pub within : place < length truths
  pub are : digits ≡ digits_of (truth_at truths place)
  pub unblocked : IsBlockedIn notes (truth_at truths place) → ⊥

-- each truth of the list with these digits is blocked
abbrev pub IsBlocked : List (List Bool) → List Note → List ℕ → Type 0
IsBlocked truths notes digits = (place : ℕ) → place < length truths → digits ≡ digits_of (truth_at truths place) → IsBlockedIn notes (truth_at truths place)

-- a truth is in the table, by its digits
pub record IsIn (table : Table) (truth : List Bool) : Type 0 where
  pub digits : Vec ℕ Global
  pub place : ℕ
  pub are : digits.items ≡ digits_of truth
  pub there : table digits ≡ Some place

-- the table has the truths that no note blocks
pub record AreLeft (truths : List (List Bool)) (notes : List Note) (table : Table) : Type 0 where
  pub unblocked : (digits : Vec ℕ Global) (place : ℕ) → table digits ≡ Some place → IsOpen truths notes digits.items place
  pub each : (place : ℕ) → place < length truths → IsBlockedIn notes (truth_at truths place) ⊎ IsIn table (truth_at truths place)

-- no truth is longer than there can be variables
abbrev pub HasShort : List (List Bool) → Type 0
HasShort truths = All (λ truth. length truth < 2 ^ 31) truths
