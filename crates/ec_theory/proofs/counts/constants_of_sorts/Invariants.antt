use Rattle.ec_theory.specs.Rows.{signature_of}
use Rattle.ec_theory.specs.Counts.{AreCounts}
use Rattle.ec_theory.proofs.counts.constants_of_sorts.Given as goal

abbrev pub invariant-loop-constant : goal.invariant-loop-constant
invariant-loop-constant l = AreCounts (signature_of l.rows) l.constant l.counts.items
