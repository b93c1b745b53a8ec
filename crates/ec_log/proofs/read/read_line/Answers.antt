use Rattle.ec_log.proofs.ReadOnly.{only_line}
use Rattle.ec_log.proofs.read.read_line.Goals as goal

pub returns-clause-only : goal.returns-clause-only
returns-clause-only c = only_line _ _ c.read_by_first_word.ensures
