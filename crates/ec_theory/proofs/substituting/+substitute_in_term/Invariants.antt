use Rattle.std.proofs.Common.{◌≡◌, max, ◌*◌, ◌+◌, take, map}
use Rattle.ec_logic.specs.Shift.{shifted_term}
use Rattle.ec_logic.specs.Substitute.{substituted_term}
use Rattle.ec_theory.specs.View.{term_tree}
use Rattle.ec_theory.proofs.term.Term.TheLaws.{the_size}
use Rattle.ec_theory.proofs.substituting.+substitute_in_term.Given as goal

-- each call is of a part, or of the same at a lower number
abbrev pub decreases-substitute_in_term : goal.decreases-substitute_in_term
decreases-substitute_in_term l = 3 * goal.size-substitute_in_term l

abbrev pub decreases-substitute_in_boxed_term : goal.decreases-substitute_in_boxed_term
decreases-substitute_in_boxed_term l = 3 * goal.size-substitute_in_boxed_term l + 1

abbrev pub decreases-substitute_in_terms : goal.decreases-substitute_in_terms
decreases-substitute_in_terms l = 3 * goal.size-substitute_in_terms l + 1

abbrev pub decreases-substitute_in_both_boxed_terms : goal.decreases-substitute_in_both_boxed_terms
decreases-substitute_in_both_boxed_terms l = 3 * max (the_size l.a.now) (the_size l.b.now) + 2

abbrev pub invariant-substitute_in_terms-loop-inner : goal.invariant-substitute_in_terms-loop-inner
invariant-substitute_in_terms-loop-inner l =
    map term_tree l.each.items ≡ map (λ t. substituted_term l.at (shifted_term 0 l.passed (term_tree l.term)) (term_tree t)) (take l.inner-index l.terms)
