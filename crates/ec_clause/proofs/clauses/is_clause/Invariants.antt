use Rattle.std.proofs.Common.{take}
use Rattle.ec_clause.specs.ClauseList.{IsClause}
use Rattle.ec_clause.proofs.clauses.is_clause.Given as goal

abbrev pub invariant-loop-place : goal.invariant-loop-place
invariant-loop-place l = IsClause l.variables (take l.place l.lits)
