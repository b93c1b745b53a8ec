-- how far a trail was worked
use Rattle.std.specs.Prelude.{◌⊎◌, ◌≡◌, ℕ, ◌+◌, ◌-◌, ◌*◌, ◌≤◌, ◌<◌, false, List, Some, length, Contains, slice_index_or}
use Rattle.ec_clause.specs.Literal.{Literal, opposite}
use Rattle.ec_trail.specs.declared.trail.Entry.{Entry}
use Rattle.ec_unit.specs.declared.chains.Cell.{Cell}
use Rattle.ec_unit.specs.declared.seen.Seen.{Seen}
use Rattle.ec_unit.specs.Chained.{lit_at}

abbrev pub no_seen : Seen
no_seen = record { lit = record { variable = 0; positive = false }; lean = 0 }

-- the literal seen at a place
abbrev pub seen_at : List Seen → ℕ → Literal
seen_at seen place = (slice_index_or seen place no_seen).lit

-- the first place whose work leans on it
abbrev pub lean_at : List Seen → ℕ → ℕ
lean_at seen place = (slice_index_or seen place no_seen).lean

-- the literal became true at this place
pub record IsTrueAt (es : List Entry) (l : Literal) (place : ℕ) : Type 0 where
  pub within : place < length es
  pub there : (d : Entry) → (slice_index_or es place d).lit ≡ l

-- the literals seen are those of the trail
pub record Follows (seen : List Seen) (es : List Entry) : Type 0 where
  pub size : length seen ≡ length es
  pub same : (i : ℕ) (d : Entry) → i < length es → seen_at seen i ≡ (slice_index_or es i d).lit

-- literals were added, and work leans on more
pub record Grows (old new : List Seen) : Type 0 where
  pub longer : length old ≤ length new
  pub lits : (i : ℕ) → i < length old → seen_at new i ≡ seen_at old i
  pub leans : (i : ℕ) → i < length old → lean_at new i ≤ lean_at old i

-- a literal was seen
pub record IsSeen (seen : List Seen) (l : Literal) : Type 0 where
  pub place : ℕ
  pub within : place < length seen
  pub there : seen_at seen place ≡ l

-- a literal of a clause was
pub record HasTrue (seen : List Seen) (lits : List Literal) : Type 0 where
  pub lit : Literal
  pub of_clause : Contains lits lit
  pub is_true : IsSeen seen lit

-- a literal was seen, and the work at a place leans on it
pub record Leans (seen : List Seen) (l : Literal) (from : ℕ) : Type 0 where
  pub place : ℕ
  pub within : place < length seen
  pub there : seen_at seen place ≡ l
  pub lean : lean_at seen place ≤ from

-- the work at the place where a literal became false leans on the other one
abbrev pub IsHeld : List Seen → ℕ → Literal → Literal → Type 0
IsHeld seen worked l other = (i : ℕ) → i < worked → seen_at seen i ≡ opposite l → Leans seen other i

-- the two places are those of the clause of this number
abbrev pub AreOf : ℕ → ℕ → ℕ → Type 0
AreOf number c d = (1 ≤ number) × (((c ≡ 2 * (number - 1)) × (d ≡ 2 * (number - 1) + 1)) ⊎ ((d ≡ 2 * (number - 1)) × (c ≡ 2 * (number - 1) + 1)))

-- so it is with the two watched literals of each clause up to a number
abbrev pub AreHeld : List Cell → ℕ → List Seen → ℕ → Type 0
AreHeld cells upto seen worked = (number c d : ℕ) (k l : Literal) → AreOf number c d → number ≤ upto → lit_at cells c ≡ Some k → lit_at cells d ≡ Some l → IsHeld seen worked k l
