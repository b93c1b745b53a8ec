use Rattle.std.proofs.Common.{drop}
use Rattle.ec_clause.proofs.Looking.{IsSeen}
use Rattle.ec_clause.proofs.look.look_at.Given as goal

abbrev pub invariant-loop-lit : goal.invariant-loop-lit
invariant-loop-lit l = IsSeen l.truth l.clause (drop l.lit-index l.clause) l.left
