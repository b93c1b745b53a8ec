use Rattle.std.proofs.Common.{Err, sym, subst}
use Rattle.ec_listing.specs.Endings.{list_ending}
use Rattle.ec_narr.specs.Reading.{IsRead}
use Rattle.ec_narr.specs.declared.listed.ListFault.{ListFault}
use Rattle.ec_evidence.specs.Steps.{IsWithinOrBehind}
use Rattle.ec_evidence.proofs.TooLong.{behind_listed, first_of}
use Rattle.ec_evidence.proofs.list.too_long.Goals as goal

pub returns-in_default : goal.returns-in_default
returns-in_default c =
    behind_listed c.args.theory.now.signature c.requires.valid.signature c.args.lines.text.now c.args.lines.count c.in_default.field-0.models.items (list_ending c.in_default.field-0.ending) c.in_default.ensures.read

pub returns-in-Line : goal.returns-in-Line
returns-in-Line c =
    let lines = c.args.lines in
    let read = subst (λ (f : ListFault). IsRead c.args.theory.now.signature lines.text.now (Err f)) c.in-Line.is c.in-Err.ensures.read in
    subst (IsWithinOrBehind c.args.theory.now.signature lines.text.now lines.count) (sym c.min.ensures) (first_of c.args.theory.now.signature c.requires.valid.signature lines.text.now lines.count c.in-Line.line read)
