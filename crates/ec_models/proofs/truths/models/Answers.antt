use Rattle.std.proofs.Common.{◌∙◌, ap, length, false}
use Rattle.std.proofs.lemmas.List.{length-replicate}
use Rattle.ec_logic.specs.Universe.{universe_of}
use Rattle.ec_logic.specs.Atom.{all_atoms}
use Rattle.ec_theory.specs.Theories.{theory_of}
use Rattle.ec_models.proofs.Steps.{size_moved, all_found, few_found_in_all}
use Rattle.ec_models.proofs.truths.models.Goals as goal

pub visit-requires-clause-all : goal.visit-requires-clause-all
visit-requires-clause-all c =
    let signature = c.args.theory.now.signature in
    ap length (size_moved c.args.atoms.now signature c.in_ok-structure.structure c.requires.of c.in_ok-structure.ensures) ∙ length-replicate (length (all_atoms (universe_of signature))) false

pub returns-clause-truths : goal.returns-clause-truths
returns-clause-truths c = all_found (theory_of c.args.theory.now) c.in_ok-structure.structure c.new-found.result.items c.visit.new.found.items c.new-found.ensures.items c.in_ok-visit.ensures.found

pub returns-clause-few : goal.returns-clause-few
returns-clause-few c = few_found_in_all (theory_of c.args.theory.now) c.in_ok-structure.structure c.new-found.result.items c.visit.new.found.items c.requires.few c.new-found.ensures.items c.in_ok-visit.ensures.found

pub visit-requires-clause-judge : goal.visit-requires-clause-judge
visit-requires-clause-judge c = c.in_ok-judge.ensures
