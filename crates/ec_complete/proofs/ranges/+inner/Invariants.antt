use Rattle.std.proofs.Common.{◌≡◌, drop}
use Rattle.ec_logic.specs.Place.{innermost_of, nearer}
use Rattle.ec_theory.specs.View.{term_trees}
use Rattle.ec_complete.proofs.ranges.+inner.Given as goal

abbrev pub invariant-innermost_variable_of-loop-arg : goal.invariant-innermost_variable_of-loop-arg
invariant-innermost_variable_of-loop-arg l = nearer l.innermost (innermost_of (term_trees (drop l.arg-index l.args))) ≡ innermost_of (term_trees l.args)
