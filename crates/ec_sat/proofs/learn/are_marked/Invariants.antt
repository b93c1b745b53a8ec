use Rattle.std.proofs.Common.{◌≡◌, ◌<◌, ℕ, get_or, true, false}
use Rattle.ec_clause.specs.Literal.{Literal}
use Rattle.ec_sat.proofs.learn.are_marked.Given as goal

abbrev pub invariant-loop-lit : goal.invariant-loop-lit
invariant-loop-lit l = (k : ℕ) (d : Literal) → k < l.lit-index → get_or l.marks (get_or l.lits k d).variable false ≡ true
