use Rattle.std.proofs.Common.{rules, arith}
use Rattle.log_tables.proofs.sizes.answer.Goals as goal

-- src/sizes.rt:53:8
pub check_log-requires-clause-truths : goal.check_log-requires-clause-truths
check_log-requires-clause-truths g c = record { visible = 6; each = search rules; within = omega (arith, c.clause_list-clauses.ensures.variables) }
