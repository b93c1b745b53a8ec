-- What the check of a log answers.
use Rattle.std.specs.Prelude.{◌≡◌, ℕ, ◌+◌, ◌<◌, ◌≤◌, Bool, List, ◌++◌, length, drop, All, Option, None, Result, Ok, Err, IsSomeAnd}
use Rattle.ec_clause.specs.ClauseList.{ClauseList}
use Rattle.ec_clause.specs.Note.{Note}
use Rattle.ec_clause.specs.declared.ending.Ending.{Ending}
use Rattle.ec_log.specs.Line.{LogLine, IsLine}
use Rattle.ec_log.specs.Log.{Log, line_text}
use Rattle.ec_log.specs.Reader.{Reader, Fits, IsNext, largest_log}
use Rattle.ec_log.specs.Reading.{view}
use Rattle.ec_log.specs.declared.line.Line.{Line}
use Rattle.ec_certificate.specs.Accepted.{IsAccepted}
use Rattle.ec_certificate.specs.Judged.{Judgement, Accepted, Faulty, Reads, IsJudged}
use Rattle.ec_checking.specs.declared.end.LogEnd.{LogEnd}
use Rattle.ec_checking.specs.declared.end.LogEnd.TheVariants as end

-- What the answer tells of the log that the name holds, if it is held: what its bytes come to, for a clause list, truths and an ending.
abbrev pub IsChecked : ClauseList → List (List Bool) → Ending → Option (List ℕ) → LogEnd → Type 0
IsChecked list truths ending held end.Accepted = IsSomeAnd held (λ log. IsJudged largest_log list truths ending log Accepted)
IsChecked list truths ending held (end.Line number) = IsSomeAnd held (λ log. IsJudged largest_log list truths ending log (Faulty number))
IsChecked list truths ending held end.Absent = held ≡ None
IsChecked list truths ending held end.Files = Unit {0}
IsChecked list truths ending held end.Memory = Unit {0}

-- The answer is the one that is due for what the bytes come to. A fault of the files, or want of memory, comes in place of any.
abbrev pub IsDueFor : Judgement → LogEnd → Type 0
IsDueFor judgement end.Accepted = judgement ≡ Accepted
IsDueFor judgement (end.Line number) = judgement ≡ Faulty number
IsDueFor judgement end.Absent = ⊥
IsDueFor judgement end.Files = Unit {0}
IsDueFor judgement end.Memory = Unit {0}

-- It is due for whatever the log that the name holds comes to.
abbrev pub IsDue : ClauseList → List (List Bool) → Ending → Option (List ℕ) → LogEnd → Type 0
IsDue list truths ending held answer = (judgement : Judgement) → IsSomeAnd held (λ log. IsJudged largest_log list truths ending log judgement) → IsDueFor judgement answer

-- a log is accepted for the clause list, the truths and the ending
pub record HasLog (list : ClauseList) (truths : List (List Bool)) (ending : Ending) : Type 0 where
  pub log : Log
  pub accepted : IsAccepted list truths ending log

-- the truths have one length, and that many variables there are
pub record AreTruthsOver (variables : ℕ) (truths : List (List Bool)) : Type 0 where
  pub visible : ℕ
  pub each : All (λ truth. length truth ≡ visible) truths
  pub within : visible ≤ variables

-- the header and the lines of these notes have been read, and the reader stands behind them
pub record HasCome (list : ClauseList) (truths : List (List Bool)) (notes : List Note) (reader : Reader) (log : List ℕ) : Type 0 where
  pub reads : Reads largest_log list truths log notes (drop reader.place log)
  pub fits : Fits reader log

-- no line stands in the log at this place and within its largest size
abbrev pub HasNoLineAt : ℕ → List ℕ → Type 0
HasNoLineAt place log = (line : LogLine) (left : List ℕ) → IsLine line → drop place log ≡ line_text line ++ left → length log ≤ largest_log + length left → ⊥

-- the next line was read, or there is none under this number
abbrev pub IsNextLine : Reader → Option (List ℕ) → ℕ → Result Line LogEnd → Reader → Type 0
IsNextLine old held number (Ok line) new = IsSomeAnd held (λ log. IsNext old.place log (view line) new)
IsNextLine old held number (Err (end.Line n)) new = (n ≡ number) × IsSomeAnd held (HasNoLineAt old.place)
IsNextLine old held number (Err end.Accepted) new = ⊥
IsNextLine old held number (Err end.Absent) new = held ≡ None
IsNextLine old held number (Err end.Files) new = Unit {0}
IsNextLine old held number (Err end.Memory) new = Unit {0}

-- nothing follows the end line, or a line of this number begins
abbrev pub IsBehindEnd : ℕ → Option (List ℕ) → ℕ → LogEnd → Type 0
IsBehindEnd place held number end.Accepted = IsSomeAnd held (λ log. place ≡ length log)
IsBehindEnd place held number (end.Line n) = (n ≡ number) × IsSomeAnd held (λ log. place < length log)
IsBehindEnd place held number end.Absent = held ≡ None
IsBehindEnd place held number end.Files = Unit {0}
IsBehindEnd place held number end.Memory = Unit {0}
