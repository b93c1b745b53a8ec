use Rattle.std.proofs.Common.{◌+◌, ◌*◌, length}
use Rattle.ec_syntax.specs.View.{term_of}
use Rattle.ec_parse.specs.Mark.{seen_all}
use Rattle.ec_parse.proofs.TermSteps.{Product, Sum, Arguments}
use Rattle.ec_parse.proofs.term.+terms.Given as goal

abbrev pub decreases-factor : goal.decreases-factor
decreases-factor l = 8 * length (seen_all l.marks.now)

abbrev pub decreases-products : goal.decreases-products
decreases-products l = 8 * length (seen_all l.marks.now) + 1

abbrev pub decreases-term : goal.decreases-term
decreases-term l = 8 * length (seen_all l.marks.now) + 2

abbrev pub decreases-terms : goal.decreases-terms
decreases-terms l = 8 * length (seen_all l.marks.now) + 3

-- These stand behind a mark, so what is in them is called with as many marks.
abbrev pub decreases-arguments : goal.decreases-arguments
decreases-arguments l = 8 * length (seen_all l.marks.now) + 4

abbrev pub decreases-application : goal.decreases-application
decreases-application l = 8 * length (seen_all l.marks.now) + 5

abbrev pub decreases-signed : goal.decreases-signed
decreases-signed l = 8 * length (seen_all l.marks.now) + 6

abbrev pub invariant-terms-parts : goal.invariant-terms-parts
invariant-terms-parts l = Arguments (seen_all l.marks) (seen_all l.rest) l.found.items

abbrev pub decreases-terms-parts : goal.decreases-terms-parts
decreases-terms-parts l = length (seen_all l.rest)

abbrev pub invariant-products-factors : goal.invariant-products-factors
invariant-products-factors l = Product (seen_all l.marks) (seen_all l.rest) (term_of l.left)

abbrev pub decreases-products-factors : goal.decreases-products-factors
decreases-products-factors l = length (seen_all l.rest)

abbrev pub invariant-term-products : goal.invariant-term-products
invariant-term-products l = Sum (seen_all l.marks) (seen_all l.rest) (term_of l.left)

abbrev pub decreases-term-products : goal.decreases-term-products
decreases-term-products l = length (seen_all l.rest)
