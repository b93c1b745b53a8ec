use Rattle.ec_naming.proofs.Keeping.{unmarked_after}
use Rattle.ec_encode.proofs.tidy.sift.Goals as goal

pub returns-clause-marks : goal.returns-clause-marks
returns-clause-marks c = unmarked_after c.args.variables c.args.marks.now c.mark.new.marks c.unmark.new.marks c.args.raw.now c.requires.blank c.in_ok-clash.ensures.marks c.unmark.ensures
