use Rattle.std.proofs.Common.{subst}
use Rattle.ec_listing.specs.Endings.{list_ending}
use Rattle.ec_listing.proofs.ListTexts.{read_is_text}
use Rattle.ec_narr.specs.Reading.{IsAnswered}
use Rattle.ec_narr.proofs.reading.read_list.Goals as goal

pub returns-in-Ok-List-clause-text : goal.returns-in-Ok-List-clause-text
returns-in-Ok-List-clause-text c =
    read_is_text c.args.theory.now.signature c.args.bytes.now c.in-Ok-List.listed.models.items (list_ending c.in-Ok-List.listed.ending)
    (subst (IsAnswered c.args.theory.now.signature c.args.bytes.now) c.in-Ok-List.field-0-is c.in-Ok-List.ensures)
