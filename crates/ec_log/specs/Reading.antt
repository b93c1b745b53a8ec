-- What reading a line answers.
use Rattle.std.specs.Prelude.{◌≡◌, ◌≢◌, ℕ, List, Result, Ok, Err}
use Rattle.ec_log.specs.Line.{LogLine, Header, Derived, Blocked, End, spelled, IsLine}
use Rattle.ec_log.specs.declared.line.Line.{Line}
use Rattle.ec_log.specs.declared.line.Line.TheVariants as line
use Rattle.ec_log.specs.declared.line.LineFault.{LineFault}
use Rattle.ec_log.specs.declared.line.LineFault.TheVariants as fault

-- a line in memory, as a line
abbrev pub view : Line → LogLine
view (line.Header variables clauses) = Header variables clauses
view (line.Derived lits hints) = Derived lits.items hints.items
view (line.Blocked digits) = Blocked digits.items
view (line.End ending) = End ending

-- the line that the bytes spell, or Form exactly where they spell none
abbrev pub IsRead : List ℕ → Result Line LineFault → Type 0
IsRead bytes (Ok line) = IsLine (view line) × (bytes ≡ spelled (view line))
IsRead bytes (Err fault.Form) = (line : LogLine) → IsLine line → bytes ≢ spelled line
IsRead bytes (Err fault.Memory) = Unit {0}
