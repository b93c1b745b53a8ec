use Rattle.std.proofs.Common.{IsTrue}
use Rattle.std.proofs.lemmas.Result.{err_from_is_err_and, on_err_weaker, on_ok_weaker}
use Rattle.ec_log.proofs.Parts.{header_part, notes_part, end_part, end_whole}
use Rattle.ec_log.proofs.writer.Writer.write_lines.Goals as goal

pub returns-in_err-append_entry-clause-part : goal.returns-in_err-append_entry-clause-part
returns-in_err-append_entry-clause-part g c = λ told.
    let p = err_from_is_err_and c.from_residual.result c.from_residual.ensures.1 in
    rw p.1 (header_part _ c.self.inside.variables c.self.inside.clauses c.self.inside.kept.items c.args.ending.now _ _ c.self.view_is (c.requires told) (c.in_err-append_entry.ensures.part told))

pub returns-in_err-append_notes-clause-part : goal.returns-in_err-append_notes-clause-part
returns-in_err-append_notes-clause-part g c = λ told.
    let p = err_from_is_err_and c.from_residual-in_err-append_notes.result c.from_residual-in_err-append_notes.ensures.1 in
    let now : IsTrue (g.F.Files.tells c.append_entry.new.files) = rw c.in_ok-append_entry.ensures.tells told in
    rw p.1 (notes_part _ c.self.inside.variables c.self.inside.clauses c.self.inside.kept.items c.deref.result.now c.args.ending.now _ _ _ c.self.view_is c.deref.ensures.value (c.requires told) (c.in_ok-append_entry.ensures.ok told) (c.in_err-append_notes.ensures.part now))

pub returns-clause-part : goal.returns-clause-part
returns-clause-part g c = λ told.
    let now : IsTrue (g.F.Files.tells c.append_entry.new.files) = rw c.in_ok-append_entry.ensures.tells told in
    let last : IsTrue (g.F.Files.tells c.append_notes.new.files) = rw c.in_ok-append_notes.ensures.tells now in
    on_err_weaker c.append_entry-2.result
    (end_part _ c.self.inside.variables c.self.inside.clauses c.self.inside.kept.items c.deref.result.now c.args.ending.now _ _ _ _ c.self.view_is c.deref.ensures.value (c.requires told) (c.in_ok-append_entry.ensures.ok told) (c.in_ok-append_notes.ensures.ok now))
    (c.append_entry-2.ensures.part last)

pub returns-clause-ok : goal.returns-clause-ok
returns-clause-ok g c = λ told.
    let now : IsTrue (g.F.Files.tells c.append_entry.new.files) = rw c.in_ok-append_entry.ensures.tells told in
    let last : IsTrue (g.F.Files.tells c.append_notes.new.files) = rw c.in_ok-append_notes.ensures.tells now in
    on_ok_weaker c.append_entry-2.result
    (end_whole _ c.self.inside.variables c.self.inside.clauses c.self.inside.kept.items c.deref.result.now c.args.ending.now _ _ _ _ c.self.view_is c.deref.ensures.value (c.requires told) (c.in_ok-append_entry.ensures.ok told) (c.in_ok-append_notes.ensures.ok now))
    (c.append_entry-2.ensures.ok last)
