-- A log that is read in pieces: what a reader holds of it, and what reading its next line answers.
use Rattle.std.specs.Prelude.{◌≡◌, ◌≢◌, ℕ, ◌+◌, ◌-◌, ◌<◌, ◌≤◌, List, [], length, take, drop, Option, Some, None, IsSomeAnd}
use Rattle.std.specs.List.{AllByRecursion}
use Rattle.ec_edge.specs.Lines.{cut_line}
use Rattle.ec_log.specs.Line.{LogLine, spelled, IsLine}
use Rattle.ec_log.specs.Log.{line_text}
use Rattle.ec_log.specs.Reading.{view}
use Rattle.ec_log.specs.declared.next_line.NextLine.{NextLine}
use Rattle.ec_log.specs.declared.next_line.NextLine.TheVariants as next

-- as many bytes as a log may have
abbrev pub largest_log : ℕ
largest_log = 268435456

-- the length of the reader's buffer, how many bytes its lines have used, and the bytes that it holds from there on
pub record Reader : Type 0 where
  pub size : ℕ
  pub place : ℕ
  pub held : List ℕ

-- a reader of which no line was asked
abbrev pub new_reader : ℕ → Reader
new_reader size = record { size = size; place = 0; held = [] }

-- the bytes that the reader holds stand in the log at its place
pub record Fits (reader : Reader) (log : List ℕ) : Type 0 where
  pub within : reader.place ≤ length log
  pub stands : take (length reader.held) (drop reader.place log) ≡ reader.held

-- the same of what a name holds: of a name that isn't held nothing was read
abbrev pub FitsHeld : Reader → Option (List ℕ) → Type 0
FitsHeld reader (Some log) = Fits reader log
FitsHeld reader None = (reader.place ≡ 0) × (reader.held ≡ [])

-- the log goes past its largest size within the line at this place: the byte is there, and none from the place on to
-- before it ends the line
pub record IsPast (place : ℕ) (log : List ℕ) : Type 0 where
  pub longer : largest_log < length log
  pub unended : AllByRecursion (λ byte. byte ≢ 10) (take (largest_log - place) (drop place log))

-- no byte 10 ends the first line, or what stands before it is no line of a log
abbrev pub HasNoLine : Option (List ℕ × List ℕ) → Type 0
HasNoLine None = Unit {0}
HasNoLine (Some p) = (line : LogLine) → IsLine line → p.0 ≢ spelled line

-- a byte is left at this place, within the largest size, and there is no line of a log
pub record IsForm (place : ℕ) (log : List ℕ) : Type 0 where
  pub some : place < length log
  pub not_past : ¬ IsPast place log
  pub no_line : HasNoLine (cut_line (drop place log))

-- the line stands in the log at the old place, and behind it what the reader then fits
pub record IsNext (old : ℕ) (log : List ℕ) (line : LogLine) (new : Reader) : Type 0 where
  pub cut : cut_line (drop old log) ≡ Some (spelled line, drop new.place log)
  pub fits : Fits new log

-- what a line uses: its bytes and the byte 10 behind them, all within the largest size
pub record IsUsed (old : Reader) (line : LogLine) (new : Reader) : Type 0 where
  pub is_line : IsLine line
  pub place : new.place ≡ old.place + length (line_text line)
  pub within : new.place ≤ largest_log
  pub size : new.size ≡ old.size

-- whatever the files tell, a line is one of a log, and moves the reader by its bytes
abbrev pub UsesLine : Reader → NextLine → Reader → Type 0
UsesLine old (next.Line line) new = IsUsed old (view line) new
UsesLine old _ new = Unit {0}

-- what the answer tells of the log that the name holds, if it is held
abbrev pub AnswersNext : Reader → Option (List ℕ) → NextLine → Reader → Type 0
AnswersNext old held (next.Line line) new = IsSomeAnd held (λ log. IsNext old.place log (view line) new)
AnswersNext old held next.Form new = IsSomeAnd held (IsForm old.place)
AnswersNext old held next.Past new = IsSomeAnd held (IsPast old.place)
AnswersNext old held next.End new = IsSomeAnd held (λ log. old.place ≡ length log)
AnswersNext old held next.Absent new = held ≡ None
AnswersNext old held next.Failed new = Unit {0}
AnswersNext old held next.Memory new = Unit {0}
