use Rattle.std.proofs.Common.{◌≡◌, ◌-◌, ◌++◌, map}
use Rattle.ec_theory.specs.View.{term_tree}
use Rattle.ec_axiom.proofs.ReleaseLemmas.{variable_list}
use Rattle.ec_axiom.proofs.release.variables_from.Given as goal

abbrev pub invariant-loop-passed : goal.invariant-loop-passed
invariant-loop-passed l = map term_tree l.args.items ++ variable_list l.innermost (l.count - l.passed) ≡ variable_list l.innermost l.count
