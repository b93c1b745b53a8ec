use Rattle.std.proofs.Common.{◌≡◌, ◌+◌, ◌*◌, max, drop, take, map}
use Rattle.ec_logic.specs.Shift.{shifted_term}
use Rattle.ec_logic.specs.Reach.{CanShiftTerms}
use Rattle.ec_theory.specs.View.{term_tree, term_trees}
use Rattle.ec_theory.proofs.term.Term.TheLaws.{the_size}
use Rattle.ec_theory.proofs.shifting.+shift_term.Given as goal

-- each call is of a part, or of the same at a lower number
abbrev pub decreases-shift_term : goal.decreases-shift_term
decreases-shift_term l = 3 * goal.size-shift_term l

abbrev pub decreases-shift_boxed_term : goal.decreases-shift_boxed_term
decreases-shift_boxed_term l = 3 * goal.size-shift_boxed_term l + 1

abbrev pub decreases-shift_terms : goal.decreases-shift_terms
decreases-shift_terms l = 3 * goal.size-shift_terms l + 1

abbrev pub decreases-shift_both_boxed_terms : goal.decreases-shift_both_boxed_terms
decreases-shift_both_boxed_terms l = 3 * max (the_size l.a.now) (the_size l.b.now) + 2

abbrev pub invariant-shift_terms-loop-term : goal.invariant-shift_terms-loop-term
invariant-shift_terms-loop-term l = record {
  room : CanShiftTerms l.from l.by (term_trees (drop l.term-index l.terms));
  done : map term_tree l.each.items ≡ map (λ t. shifted_term l.from l.by (term_tree t)) (take l.term-index l.terms);
}
