use Rattle.ec_checking.proofs.CheckLemmas.{checked-due}
use Rattle.ec_checking.proofs.check.check_log.Goals as goal

pub returns-clause-due : goal.returns-clause-due
returns-clause-due g c = λ told. checked-due c.args.clauses.variables c.args.clauses c.args.truths.now c.args.ending.now _ c.check_lines.result c.requires.truths (c.check_lines.ensures.checked told)
