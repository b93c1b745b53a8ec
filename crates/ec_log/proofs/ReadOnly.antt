-- What was read is the only line with these bytes.
use Rattle.std.proofs.Common.{◌≡◌, ℕ, List, Result, Ok, Err, sym, ◌∙◌}
use Rattle.std.specs.Prelude.{IfOk}
use Rattle.ec_log.specs.Line.{LogLine, spelled, IsLine}
use Rattle.ec_log.specs.Reading.{IsRead, view}
use Rattle.ec_log.specs.declared.line.Line.{Line}
use Rattle.ec_log.specs.declared.line.LineFault.{LineFault}
use Rattle.ec_log.proofs.LinesApart.{spelled_injective}

pub only_line : (bytes : List ℕ) (result : Result Line LineFault) → IsRead bytes result → (line : LogLine) → IsLine line → bytes ≡ spelled line → IfOk result (λ read. view read ≡ line)
only_line bytes (Ok read) h line fits is = spelled_injective (view read) line h.0 fits (sym h.1 ∙ is)
only_line bytes (Err fault) h line fits is = tt
