use Rattle.std.proofs.Common.{refl}
use Rattle.ec_checking.proofs.CheckLemmas.{each, form-no_line, past-no_line, end-no_line}
use Rattle.ec_checking.proofs.check.next_line.Goals as goal

pub returns-in-Form-clause-read : goal.returns-in-Form-clause-read
returns-in-Form-clause-read g c = λ told. (refl, each (g.F.Files.held c.args.files.now c.args.log.now) (form-no_line c.args.reader.now.place) (c.in-Form.ensures.read told))

pub returns-in-Past-clause-read : goal.returns-in-Past-clause-read
returns-in-Past-clause-read g c = λ told. (refl, each (g.F.Files.held c.args.files.now c.args.log.now) (λ log. past-no_line c.args.reader.now.place log c.requires.place) (c.in-Past.ensures.read told))

pub returns-in-End-clause-read : goal.returns-in-End-clause-read
returns-in-End-clause-read g c = λ told. (refl, each (g.F.Files.held c.args.files.now c.args.log.now) (end-no_line c.args.reader.now.place) (c.in-End.ensures.read told))
