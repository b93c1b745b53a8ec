-- That a reader fits its log, for who asks for one line after another.
use Rattle.std.proofs.Common.{◌≡◌, ℕ, List, ◌∷◌, ◌++◌, Option, Some, None, drop, refl, ◌∙◌, subst, arith}
use Rattle.std.specs.Prelude.{IfSome}
use Rattle.ec_edge.proofs.Cuts.{cut_at-whole}
use Rattle.ec_log.specs.Line.{LogLine, spelled}
use Rattle.ec_log.specs.Log.{line_text}
use Rattle.ec_log.specs.Reader.{Reader, new_reader, FitsHeld, IsNext, AnswersNext}
use Rattle.ec_log.specs.declared.line.Line.{Line}
use Rattle.ec_log.specs.declared.next_line.NextLine.TheVariants as next
use Rattle.ec_log.proofs.Collected.{spliced}

-- a reader of which no line was asked fits whatever a name holds
pub FitsHeld-new : (size : ℕ) (held : Option (List ℕ)) → FitsHeld (new_reader size) held
FitsHeld-new size (Some log) = record { within = omega arith; stands = refl }
FitsHeld-new size None = (refl, refl)

-- after a line it fits again
pub FitsHeld-next : (old new : Reader) (held : Option (List ℕ)) (line : Line) → AnswersNext old held (next.Line line) new → FitsHeld new held
FitsHeld-next old new (Some log) line is = is.fits
FitsHeld-next old new None line is = absurd is

-- the line's bytes and its end stand there, and behind them what the reader then fits
pub IsNext-bytes : (old : ℕ) (log : List ℕ) (line : LogLine) (new : Reader) → IsNext old log line new → drop old log ≡ line_text line ++ drop new.place log
IsNext-bytes old log line new is =
    let P : Option (List ℕ × List ℕ) → Type 0 = λ cut. IfSome cut (λ p. drop old log ≡ p.0 ++ 10 ∷ p.1) in
    subst P is.cut (cut_at-whole 10 (drop old log)) ∙ spliced (spelled line) (drop new.place log)
