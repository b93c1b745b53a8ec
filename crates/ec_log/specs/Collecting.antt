-- A line of a log that is joined from several pieces.
use Rattle.std.specs.Prelude.{◌≡◌, ◌≢◌, ℕ, ◌+◌, ◌<◌, ◌≤◌, List, [], ◌∷◌, ◌++◌, length, take, drop, Option, Some, None}
use Rattle.std.specs.List.{AllByRecursion}
use Rattle.ec_log.specs.Reader.{Reader}

-- no byte ends a line
abbrev pub Unended : List ℕ → Type 0
Unended bytes = AllByRecursion (λ byte. byte ≢ 10) bytes

-- the first byte that ends a line stands at this place
pub record EndsAt (bytes : List ℕ) (at : ℕ) : Type 0 where
  pub within : at < length bytes
  pub ends : bytes ≡ take at bytes ++ 10 ∷ drop (at + 1) bytes
  pub unended : Unended (take at bytes)

-- the reader stands behind the front of the line at the old place
pub record IsBehind (old : Reader) (front : List ℕ) (reader : Reader) : Type 0 where
  pub place : reader.place ≡ old.place + length front
  pub size : reader.size ≡ old.size

-- at the old place the log has this front of a line, and then the bytes that are held
pub record HasFront (old : ℕ) (front held log : List ℕ) : Type 0 where
  pub rest : List ℕ
  pub within : old ≤ length log
  pub stands : drop old log ≡ front ++ (held ++ rest)
  pub unended : Unended front

-- the same of what a name holds: of a name that isn't held nothing was read
abbrev pub HasFrontHeld : ℕ → List ℕ → List ℕ → Option (List ℕ) → Type 0
HasFrontHeld old front held (Some log) = HasFront old front held log
HasFrontHeld old front held None = (old ≡ 0) × (front ≡ []) × (held ≡ [])

-- the bytes that are held now are those of the log at this place, and there are some where it has some
pub record IsFilled (place : ℕ) (held log : List ℕ) : Type 0 where
  pub same : held ≡ take (length held) (drop place log)
  pub some : place < length log → 0 < length held
