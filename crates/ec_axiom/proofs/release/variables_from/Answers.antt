use Rattle.std.proofs.Common.{◌∷◌, [], map}
use Rattle.std.proofs.lemmas.List.{map-append}
use Rattle.ec_theory.specs.View.{term_tree}
use Rattle.ec_axiom.proofs.ReleaseLemmas.{variables_more}
use Rattle.ec_axiom.proofs.release.variables_from.Goals as goal

pub loop-passed-preserved : goal.loop-passed-preserved
loop-passed-preserved c = rw (c.in_ok-push.ensures.items, map-append term_tree c.loop-passed.args.items (c.variable.result ∷ []))
    (variables_more c.args.innermost c.args.count c.loop-passed.passed (map term_tree c.loop-passed.args.items) (term_tree c.variable.result) c.loop-passed-test.true c.variable.ensures c.loop-passed.invariant)
