use Rattle.ec_prop.specs.Grounded.{definitions_of}
use Rattle.ec_audit.proofs.Filling.{AreFilled}
use Rattle.ec_audit.proofs.trees.fill_others.Given as goal

abbrev pub invariant-loop-definition : goal.invariant-loop-definition
invariant-loop-definition l = AreFilled l.visible (definitions_of l.definitions) l.initial.truths l.truths l.definition-index
