use Rattle.std.proofs.Common.{◌≡◌, drop}
use Rattle.ec_syntax.specs.View.{terms_of}
use Rattle.ec_walk.specs.Scopes.{words, met_in_terms}
use Rattle.ec_walk.proofs.variables.+collect_in_term.Given as goal

abbrev pub invariant-collect_in_terms-loop-term : goal.invariant-collect_in_terms-loop-term
invariant-collect_in_terms-loop-term l =
    met_in_terms (words l.scope) (words l.found.items) (terms_of (drop l.term-index l.terms))
    ≡ met_in_terms (words l.scope) (words l.fn.found.items) (terms_of l.terms)
