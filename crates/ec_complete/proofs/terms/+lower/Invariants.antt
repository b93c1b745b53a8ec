use Rattle.std.proofs.Common.{◌≡◌, take, map}
use Rattle.ec_theory.specs.View.{term_tree}
use Rattle.ec_complete.specs.Completion.{lowered}
use Rattle.ec_complete.proofs.terms.+lower.Given as goal

abbrev pub invariant-lower_each-loop-term : goal.invariant-lower_each-loop-term
invariant-lower_each-loop-term l = map term_tree l.each.items ≡ map (λ t. lowered l.by (term_tree t)) (take l.term-index l.terms)
