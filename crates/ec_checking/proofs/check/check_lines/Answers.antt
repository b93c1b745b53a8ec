use Rattle.std.proofs.Common.{◌≡◌, [], IsTrue, length, sym, ap, subst, true≢false, ◌∙◌}
use Rattle.std.specs.Prelude.{IsSomeAnd}
use Rattle.ec_log.specs.Line.{Header}
use Rattle.ec_log.specs.Reader.{Reader}
use Rattle.ec_log.specs.Reading.{view}
use Rattle.ec_certificate.specs.Judged.{header_of}
use Rattle.ec_checking.specs.Checked.{HasCome}
use Rattle.ec_checking.proofs.CheckLemmas.{each, with_none, header-read, header-other, first-checked}
use Rattle.ec_checking.proofs.check.check_lines.Goals as goal

pub check_notes-requires-clause-read : goal.check_notes-requires-clause-read
check_notes-requires-clause-read g c = λ told.
    let before : IsTrue (g.F.Files.tells c.args.files.now) = rw (← c.in-Ok-next_line.ensures.tells) told in
    let header : view c.in-Ok-next_line.line ≡ header_of c.args.clauses = c.is_header.ensures.0 c.if-is_header.true ∙ ap (λ n. Header n c.len-count.result) c.variables-variables.ensures.value ∙ ap (λ n. Header c.args.clauses.variables n) c.len-count.ensures.value in
    let start : c.in-Ok.reader.place ≡ 0 = ap (λ (r : Reader). r.place) c.in-Ok.ensures in
    let come = each (g.F.Files.held c.args.files.now c.args.log.now) (λ log. header-read c.args.clauses c.args.truths.now log (view c.in-Ok-next_line.line) c.in-Ok.reader c.next_line.new.reader start header c.in-Ok-next_line.ensures.used) (c.in-Ok-next_line.ensures.read before) in
    let held = subst (λ h. IsSomeAnd h (HasCome c.args.clauses c.args.truths.now [] c.next_line.new.reader)) (sym (c.in-Ok-next_line.ensures.stays c.args.log.now)) come in
    subst (λ l. IsSomeAnd (g.F.Files.held c.next_line.new.files c.args.log.now) (HasCome l c.args.truths.now [] c.next_line.new.reader)) (sym (c.in-Ok-new.ensures.clauses ∙ with_none c.args.clauses)) held

pub returns-in-Ok-next_line-clause-checked : goal.returns-in-Ok-next_line-clause-checked
returns-in-Ok-next_line-clause-checked g c = λ told.
    let other = λ (is : view c.in-Ok-next_line.line ≡ header_of c.args.clauses). (
    let header : view c.in-Ok-next_line.line ≡ Header c.variables-variables.result c.len-count.result = is ∙ ap (λ n. Header n (length c.args.clauses.clauses)) (sym c.variables-variables.ensures.value) ∙ ap (λ n. Header c.variables-variables.result n) (sym c.len-count.ensures.value) in
    true≢false (sym (c.is_header.ensures.1 header) ∙ c.if-is_header.false)) in
    let start : c.in-Ok.reader.place ≡ 0 = ap (λ (r : Reader). r.place) c.in-Ok.ensures in
    each (g.F.Files.held c.args.files.now c.args.log.now) (λ log. header-other c.args.clauses c.args.truths.now c.args.ending.now log (view c.in-Ok-next_line.line) c.in-Ok.reader c.next_line.new.reader start other c.in-Ok-next_line.ensures.used) (c.in-Ok-next_line.ensures.read told)

pub returns-clause-checked : goal.returns-clause-checked
returns-clause-checked g c = λ told.
    let start : c.in-Ok.reader.place ≡ 0 = ap (λ (r : Reader). r.place) c.in-Ok.ensures in
    first-checked c.args.clauses c.args.truths.now c.args.ending.now (g.F.Files.held c.args.files.now c.args.log.now) c.in-Ok.reader c.next_line.new.reader c.in-Err.end start (c.in-Err.ensures.read told)
