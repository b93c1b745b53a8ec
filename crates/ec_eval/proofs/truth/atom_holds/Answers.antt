use Rattle.std.proofs.Common.{sym, ◌∙◌}
use Rattle.ec_logic.specs.Universe.{universe_of}
use Rattle.ec_logic.specs.Value.{values}
use Rattle.ec_logic.proofs.MarkedBits.{structure_at, structure_none}
use Rattle.ec_theory.specs.View.{term_trees}
use Rattle.ec_eval.proofs.truth.atom_holds.Goals as goal

pub returns-in-Some : goal.returns-in-Some
returns-in-Some c =
    let universe = universe_of c.args.signature.now in
    c.truth_of.ensures ∙ sym (structure_at universe c.args.truths.now c.args.predicate (values universe c.args.env.now (term_trees c.args.args.now)) c.in-Some.atom (sym c.in-Some.ensures))

pub returns-in-None : goal.returns-in-None
returns-in-None c =
    let universe = universe_of c.args.signature.now in
    sym (structure_none universe c.args.truths.now c.args.predicate (values universe c.args.env.now (term_trees c.args.args.now)) (sym c.in-None.ensures))
