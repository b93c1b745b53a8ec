-- Shifted and substituted formulas as text, worked out by hand.
use Rattle.std.proofs.Common.{◌≡◌, codes, negsuc, refl}
use Rattle.ec_logic.specs.Tree.{Term, variable, int, constant, event, sum, no_terms, term}
use Rattle.ec_logic.specs.Shift.{shifted}
use Rattle.ec_logic.specs.Substitute.{substituted}
use Rattle.theory_tables.specs.Samples.{three_binders}
use Rattle.theory_tables.specs.Text.{formula_text}

written : formula_text three_binders ≡ codes "[s6] ({s8} p6(v1, (v0 + v3)) -> [time] HoldsAt(f1(v1, v2), v0))"
written = refl

-- ---- free variables raised by 3: both, and the variable 1 alone

both-raised : formula_text (shifted 0 3 three_binders) ≡ codes "[s6] ({s8} p6(v1, (v0 + v6)) -> [time] HoldsAt(f1(v1, v5), v0))"
both-raised = refl

last-raised : formula_text (shifted 1 3 three_binders) ≡ codes "[s6] ({s8} p6(v1, (v0 + v6)) -> [time] HoldsAt(f1(v1, v2), v0))"
last-raised = refl

-- ---- a term in place of a free variable: its own variables are those outside the formula, so two binders raise them by two

abbrev an_event : Term
an_event = event 1 (term (constant 2) (term (variable 0) no_terms))

event-for-first : formula_text (substituted 0 an_event three_binders) ≡ codes "[s6] ({s8} p6(v1, (v0 + v2)) -> [time] HoldsAt(f1(v1, e1(c2, v2)), v0))"
event-for-first = refl

abbrev a_sum : Term
a_sum = sum (variable 4) (int (negsuc 6))

sum-for-last : formula_text (substituted 1 a_sum three_binders) ≡ codes "[s6] ({s8} p6(v1, (v0 + (v6 + -7))) -> [time] HoldsAt(f1(v1, v2), v0))"
sum-for-last = refl
