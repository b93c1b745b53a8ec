use Rattle.std.proofs.Common.{Result, Ok, Err, IsTrue, ap, inl, inr, ◌∙◌}
use Rattle.std.specs.Prelude.{IsErrOf, OnErr}
use Rattle.std.proofs.lemmas.Result.{on_ok_weaker}
use Rattle.ec_log.proofs.WrittenLines.{written_lines}
use Rattle.ec_log.proofs.writer.Writer.write.Goals as goal

-- what holds after any refusal holds after this one
refused : {T E P : Type 0} (r : Result T E) (e : E) → OnErr r P → IsErrOf r e → P
refused (Ok x) e h is = absurd cc
refused (Err x) e h is = h

pub returns-in-Ok-clause-memory : goal.returns-in-Ok-clause-memory
returns-in-Ok-clause-memory g c = λ told memory.
    let now : IsTrue (g.F.Files.tells c.start.new.self) = rw c.in-Ok.ensures.tells told in
    inr (refused c.write_lines.result _ (c.write_lines.ensures.part now) memory)

pub returns-in-Ok-clause-part : goal.returns-in-Ok-clause-part
returns-in-Ok-clause-part g c = λ failed. inr (
  c.write_lines.ensures.failed_starts ∙ c.in-Ok.ensures.uncounted,
  λ told.
      let now : IsTrue (g.F.Files.tells c.start.new.self) = rw c.in-Ok.ensures.tells told in
      refused c.write_lines.result _ (c.write_lines.ensures.part now) failed,
)

pub returns-in-Ok-clause-lines : goal.returns-in-Ok-clause-lines
returns-in-Ok-clause-lines g c = on_ok_weaker c.write_lines.result (written_lines c.args.self.now c.args.ending.now c.requires.notes c.requires.limit) c.write_lines.ensures.range

pub returns-in-Err-Failed-clause-part : goal.returns-in-Err-Failed-clause-part
returns-in-Err-Failed-clause-part g c = λ failed. inl (c.in-Err-Failed.ensures.counted (ap Err c.in-Err-Failed.field-0-is))

pub returns-in-Err-Memory-clause-memory : goal.returns-in-Err-Memory-clause-memory
returns-in-Err-Memory-clause-memory g c = λ told memory. inl (c.in-Err-Memory.ensures.memory (ap Err c.in-Err-Memory.field-0-is))
