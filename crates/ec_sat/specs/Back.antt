-- how far a search may go back
use Rattle.std.specs.Prelude.{◌≡◌, ℕ, ◌≤◌, ◌<◌, List, length, slice_index_or}
use Rattle.ec_clause.specs.Literal.{Literal}
use Rattle.ec_trail.specs.declared.trail.Entry.{Entry}

-- the variable of a literal got its value at this level or above
pub record IsHigh (es : List Entry) (l : Literal) (level : ℕ) : Type 0 where
  pub place : ℕ
  pub within : place < length es
  pub same : (d : Entry) → (slice_index_or es place d).lit.variable ≡ l.variable
  pub high : (d : Entry) → level ≤ (slice_index_or es place d).level

-- a literal of a clause got its value at this level or above
pub record HasOne (es : List Entry) (lits : List Literal) (level : ℕ) : Type 0 where
  pub place : ℕ
  pub within : place < length lits
  pub high : (d : Literal) → IsHigh es (slice_index_or lits place d) level

-- two literals of a clause did
pub record HasTwo (es : List Entry) (lits : List Literal) (level : ℕ) : Type 0 where
  pub first : ℕ
  pub second : ℕ
  pub apart : first < second
  pub within : second < length lits
  pub high_first : (d : Literal) → IsHigh es (slice_index_or lits first d) level
  pub high_second : (d : Literal) → IsHigh es (slice_index_or lits second d) level
