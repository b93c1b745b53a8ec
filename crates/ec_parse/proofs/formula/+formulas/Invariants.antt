use Rattle.std.proofs.Common.{◌+◌, ◌*◌, ◌∷◌, length}
use Rattle.ec_parse.specs.declared.mark.Sign.TheVariants.{And, Or}
use Rattle.ec_syntax.specs.View.{formula_of}
use Rattle.ec_parse.specs.Mark.{seen_all, sign}
use Rattle.ec_parse.proofs.FormulaSteps.{Conjuncts, Disjuncts, Sides}
use Rattle.ec_parse.proofs.formula.+formulas.Given as goal

abbrev pub decreases-unary : goal.decreases-unary
decreases-unary l = 9 * length (seen_all l.marks.now)

abbrev pub decreases-conjunction : goal.decreases-conjunction
decreases-conjunction l = 9 * length (seen_all l.marks.now) + 1

abbrev pub decreases-disjunction : goal.decreases-disjunction
decreases-disjunction l = 9 * length (seen_all l.marks.now) + 2

abbrev pub decreases-implication : goal.decreases-implication
decreases-implication l = 9 * length (seen_all l.marks.now) + 3

abbrev pub decreases-formula : goal.decreases-formula
decreases-formula l = 9 * length (seen_all l.marks.now) + 4

-- These stand behind a mark, so what is in them is called with as many marks.
abbrev pub decreases-negated : goal.decreases-negated
decreases-negated l = 9 * length (seen_all l.marks.now) + 5

abbrev pub decreases-group : goal.decreases-group
decreases-group l = 9 * length (seen_all l.marks.now) + 5

abbrev pub decreases-scope : goal.decreases-scope
decreases-scope l = 9 * length (seen_all l.marks.now) + 5

abbrev pub decreases-every : goal.decreases-every
decreases-every l = 9 * length (seen_all l.marks.now) + 6

abbrev pub decreases-some : goal.decreases-some
decreases-some l = 9 * length (seen_all l.marks.now) + 6

abbrev pub decreases-conjuncts : goal.decreases-conjuncts
decreases-conjuncts l = 9 * length (seen_all l.marks.now) + 5

abbrev pub decreases-disjuncts : goal.decreases-disjuncts
decreases-disjuncts l = 9 * length (seen_all l.marks.now) + 5

abbrev pub invariant-conjuncts-parts : goal.invariant-conjuncts-parts
invariant-conjuncts-parts l = Conjuncts (sign And ∷ seen_all l.marks) (seen_all l.rest) l.found.items

abbrev pub decreases-conjuncts-parts : goal.decreases-conjuncts-parts
decreases-conjuncts-parts l = length (seen_all l.rest)

abbrev pub invariant-disjuncts-parts : goal.invariant-disjuncts-parts
invariant-disjuncts-parts l = Disjuncts (sign Or ∷ seen_all l.marks) (seen_all l.rest) l.found.items

abbrev pub decreases-disjuncts-parts : goal.decreases-disjuncts-parts
decreases-disjuncts-parts l = length (seen_all l.rest)

abbrev pub invariant-formula-sides : goal.invariant-formula-sides
invariant-formula-sides l = Sides (seen_all l.marks) (seen_all l.rest) (formula_of l.left)

abbrev pub decreases-formula-sides : goal.decreases-formula-sides
decreases-formula-sides l = length (seen_all l.rest)
