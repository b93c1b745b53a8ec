use Rattle.std.proofs.Common.{◌≤◌, arith}
use Rattle.ec_theory.specs.Theories.{theory_of}
use Rattle.ec_weight.specs.Weight.{weight_of}
use Rattle.ec_ground.proofs.Grounds.{is_grounded}
use Rattle.ec_ground.proofs.grounding.ground.Goals as goal

pub returns-clause-grounded : goal.returns-clause-grounded
returns-clause-grounded c =
    let theory = theory_of c.args.theory.now in
    let lists = c.in_ok-grounded.ensures in
    let light : weight_of theory ≤ 4000000 = omega (arith, c.in_ok-weight_of.ensures, c.if-branch-gt-WEIGHT_LIMIT.false) in
    is_grounded theory c.requires.valid light lists.few c.in_ok-grounded.field-0 lists.sentences lists.definitions lists.variables

pub returns-clause-sentences : goal.returns-clause-sentences
returns-clause-sentences c = c.in_ok-grounded.ensures.sentences

pub returns-clause-definitions : goal.returns-clause-definitions
returns-clause-definitions c = c.in_ok-grounded.ensures.definitions

pub returns-clause-variables : goal.returns-clause-variables
returns-clause-variables c = c.in_ok-grounded.ensures.variables

pub returns-clause-light : goal.returns-clause-light
returns-clause-light c = omega (arith, c.in_ok-weight_of.ensures, c.if-branch-gt-WEIGHT_LIMIT.false)
