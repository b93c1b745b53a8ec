-- What the calls of files and sinks give of the bytes that are held, and what they do to them.
use Rattle.std.specs.Prelude.{◌≡◌, ◌≢◌, ℕ, ◌+◌, ◌<◌, ◌≤◌, Bool, List, ◌++◌, length, take, drop, Option, option_map, nat_lt}

-- the first n bytes of the buffer are the n bytes from `at` on, and there are some where both have some
pub record IsPiece (bytes : List ℕ) (at : ℕ) (buffer : List ℕ) (n : ℕ) : Type 0 where
  pub same : take n buffer ≡ take n (drop at bytes)
  pub within : n ≤ length (drop at bytes)
  pub some : at < length bytes → 0 < length buffer → 0 < n

-- every name holds what it held
abbrev pub AllStay : (List ℕ → Option (List ℕ)) → (List ℕ → Option (List ℕ)) → Type 0
AllStay old new = (name : List ℕ) → new name ≡ old name

-- every other name holds what it held
abbrev pub OthersStay : List ℕ → (List ℕ → Option (List ℕ)) → (List ℕ → Option (List ℕ)) → Type 0
OthersStay name old new = (other : List ℕ) → other ≢ name → new other ≡ old other

-- what a name holds after a piece is added, where it held something
abbrev pub appended : Option (List ℕ) → List ℕ → Option (List ℕ)
appended held piece = option_map (λ bytes. bytes ++ piece) held

-- the new bytes are the old ones and then a prefix of the piece
abbrev pub AppendsPrefix : List ℕ → List ℕ → List ℕ → Type 0
AppendsPrefix piece old new = (front rest : List ℕ) × (piece ≡ front ++ rest) × (new ≡ old ++ front)

-- the name holds what it held, and then a prefix of the piece
abbrev pub AppendsHeldPrefix : List ℕ → Option (List ℕ) → Option (List ℕ) → Type 0
AppendsHeldPrefix piece old new = (front rest : List ℕ) × (piece ≡ front ++ rest) × (new ≡ appended old front)

-- what is read of a file up to one byte past a limit, and whether the file goes past the limit
pub record IsRead (bytes : List ℕ) (limit : ℕ) (read : List ℕ) (past : Bool) : Type 0 where
  pub front : read ≡ take (limit + 1) bytes
  pub is_past : past ≡ nat_lt limit (length bytes)
