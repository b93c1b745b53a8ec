use Rattle.std.proofs.Common.{◌≡◌, ap, arith}
use Rattle.ec_log.specs.Reader.{Reader}
use Rattle.ec_log.specs.Reading.{view}
use Rattle.ec_log.proofs.Collected.{IsPast-ended, IsForm-ended, IsNext-ended}
use Rattle.ec_log.proofs.reader.LogReader.ended_line.Goals as goal

pub returns-then-self-end-ge-LARGEST_LOG-clause-read : goal.returns-then-self-end-ge-LARGEST_LOG-clause-read
returns-then-self-end-ge-LARGEST_LOG-clause-read c = λ old held behind front.
    let now = c.args.self.now in
    let same : c.self.inside.place ≡ now.place = ap (λ (r : Reader). r.place) c.self.view_is in
    IsPast-ended old.place now.place c.args.front.items now.held c.args.end held front c.requires behind.place (omega arith)

pub returns-in-Ok-clause-read : goal.returns-in-Ok-clause-read
returns-in-Ok-clause-read c = λ old held behind front.
    IsNext-ended old.place c.args.front.items c.args.self.now c.skip.new.self c.args.end (view c.in-Ok.line) held front c.requires behind.place c.in-Ok.ensures.1 c.skip.ensures

pub returns-in-Err-Form-clause-read : goal.returns-in-Err-Form-clause-read
returns-in-Err-Form-clause-read c = λ old held behind front.
    let now = c.args.self.now in
    let same : c.self.inside.place ≡ now.place = ap (λ (r : Reader). r.place) c.self.view_is in
    IsForm-ended old.place now.place c.args.front.items now.held c.args.end held front c.requires behind.place (omega arith) (rw c.in-Err-Form.field-0-is at c.in-Err-Form.ensures)
