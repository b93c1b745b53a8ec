-- What the bytes of a log come to: an accepted log, or the first line at which it fails.
use Rattle.std.specs.Prelude.{◌≡◌, ◌≢◌, ℕ, ◌+◌, ◌<◌, ◌≤◌, Bool, false, List, [], ◌∷◌, ◌++◌, length, map, take, All, Contains, slice_index_or}
use Rattle.std.specs.List.{flat_map, list_any, AllByRecursion}
use Rattle.ec_clause.specs.ClauseList.{ClauseList}
use Rattle.ec_clause.specs.Note.{Note, Blocked}
use Rattle.ec_clause.specs.declared.ending.Ending.{Ending}
use Rattle.ec_log.specs.Ending.{IsEnding}
use Rattle.ec_log.specs.Line.{LogLine, Header, End, IsLine}
use Rattle.ec_log.specs.Log.{Log, line_text, noted, log_lines, log_text}
use Rattle.ec_certificate.specs.Accepted.{forbids, refutes, IsRight, IsEndedBy, IsAccepted}

-- the log is accepted, or this line, counted from 1, is the first at fault
pub data Judgement : Type 0 where
  Accepted : Judgement
  Faulty : (line : ℕ) → Judgement

-- the first line of a log for a list of clauses
abbrev pub header_of : ClauseList → LogLine
header_of list = Header list.variables (length list.clauses)

-- A note may follow these: its line can be written, it is right, and no clause without a literal stands before it.
pub record MayFollow (list : ClauseList) (truths : List (List Bool)) (before : List Note) (note : Note) : Type 0 where
  pub line : IsLine (noted note)
  pub right : IsRight list truths before note
  pub open_still : list_any refutes before ≡ false

-- each note may follow those before it
abbrev pub AreInOrder : ClauseList → List (List Bool) → List Note → Type 0
AreInOrder list truths notes = (k : ℕ) (d : Note) → k < length notes → MayFollow list truths (take k notes) (slice_index_or notes k d)

-- The end line with this ending may follow these notes: its line can be written, each truth was blocked, and the notes are in keeping with it.
pub record MayEnd (truths : List (List Bool)) (ending : Ending) (notes : List Note) : Type 0 where
  pub line : IsEnding ending
  pub blocked : All (λ truth. Contains notes (Blocked (forbids truth))) truths
  pub ended : IsEndedBy notes ending

-- A log that may have so many bytes begins with the header and the lines of these notes, each of which may follow those before it, and then has these bytes left.
pub record Reads (size : ℕ) (list : ClauseList) (truths : List (List Bool)) (bytes : List ℕ) (notes : List Note) (rest : List ℕ) : Type 0 where
  pub begins : bytes ≡ line_text (header_of list) ++ (flat_map line_text (map noted notes) ++ rest)
  pub header : IsLine (header_of list)
  pub in_order : AreInOrder list truths notes
  pub within : length bytes ≤ size + length rest

-- It goes on with the end line, which may follow, and then has these bytes left.
pub record ReadsToEnd (size : ℕ) (list : ClauseList) (truths : List (List Bool)) (ending : Ending) (bytes : List ℕ) (notes : List Note) (rest : List ℕ) : Type 0 where
  pub reads : Reads size list truths bytes notes (line_text (End ending) ++ rest)
  pub ends : MayEnd truths ending notes
  pub within : length bytes ≤ size + length rest

-- What the bytes of a log come to that may have so many bytes, for a clause list, for truths of its visible variables and for an ending. A log that is longer isn't accepted:
-- its faulty line is the one that goes past the size, or one before it.
pub data IsJudged (size : ℕ) (list : ClauseList) (truths : List (List Bool)) (ending : Ending) (bytes : List ℕ) : Judgement → Type 0 where
  -- nothing follows the end line
  accepted : (notes : List Note) → ReadsToEnd size list truths ending bytes notes [] → IsJudged size list truths ending bytes Accepted
  -- the first line isn't the header
  no_header : ((rest : List ℕ) → Reads size list truths bytes [] rest → ⊥) → IsJudged size list truths ending bytes (Faulty 1)
  -- the line behind these notes is neither that of a note that may follow them nor the end line
  no_line : (notes : List Note) (rest : List ℕ) → Reads size list truths bytes notes rest
      → ((note : Note) (left : List ℕ) → Reads size list truths bytes (notes ++ note ∷ []) left → ⊥)
      → ((left : List ℕ) → ReadsToEnd size list truths ending bytes notes left → ⊥) → IsJudged size list truths ending bytes (Faulty (length notes + 2))
  -- something follows the end line
  goes_on : (notes : List Note) (rest : List ℕ) → ReadsToEnd size list truths ending bytes notes rest → rest ≢ [] → IsJudged size list truths ending bytes (Faulty (length notes + 3))

-- The bytes are those of an accepted log, each line of which can be written.
pub record IsAcceptedText (list : ClauseList) (truths : List (List Bool)) (ending : Ending) (bytes : List ℕ) : Type 0 where
  pub log : Log
  pub accepted : IsAccepted list truths ending log
  pub lines : AllByRecursion IsLine (log_lines log ending)
  pub are : bytes ≡ log_text log ending
