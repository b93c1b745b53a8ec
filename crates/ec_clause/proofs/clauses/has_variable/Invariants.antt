use Rattle.std.proofs.Common.{◌≢◌, ℕ, ◌<◌, get_or}
use Rattle.ec_clause.specs.Literal.{Literal}
use Rattle.ec_clause.proofs.clauses.has_variable.Given as goal

abbrev pub invariant-loop-lit : goal.invariant-loop-lit
invariant-loop-lit l = (k : ℕ) (d : Literal) → k < l.lit-index → (get_or l.lits k d).variable ≢ l.variable
