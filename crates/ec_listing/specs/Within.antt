-- A text that may pass its size: it is no list text then, and it has a faulty line.
use Rattle.std.specs.Prelude.{◌≡◌, ℕ, ◌+◌, ◌≤◌, ◌<◌, List, ◌++◌, length, take}
use Rattle.ec_logic.specs.Signature.{Signature}
use Rattle.ec_listing.specs.Reading.{Answer, faulty, AreLines, IsLineText, line_count, IsReadAs}

-- The bytes go past the size, within the line behind these lines.
pub record IsPassed (size : ℕ) (bytes lines : List ℕ) : Type 0 where
  pub more : size < length bytes
  pub begun : List ℕ
  pub parts : take size bytes ≡ lines ++ begun
  pub whole : AreLines lines
  pub one : IsLineText begun

-- What a text comes to within a size. Where it passes the size, its faulty line is the one in which it does, or an earlier one, which the
-- lines before that one have as a whole text.
pub data IsListWithin (signature : Signature) (size : ℕ) (bytes : List ℕ) : Answer → Type 0 where
  within : {answer : Answer} → length bytes ≤ size → IsReadAs signature bytes answer → IsListWithin signature size bytes answer
  earlier : (lines : List ℕ) (number : ℕ) → IsPassed size bytes lines → IsReadAs signature lines (faulty number) → number ≤ line_count lines → IsListWithin signature size bytes (faulty number)
  passes : (lines : List ℕ) → IsPassed size bytes lines → ((number : ℕ) → IsReadAs signature lines (faulty number) → line_count lines < number)
      → IsListWithin signature size bytes (faulty (line_count lines + 1))
