use Rattle.std.proofs.Common.{ap, ◌∙◌, false}
use Rattle.ec_folding.specs.Tree.{true_in}
use Rattle.ec_folding.specs.Constants.{is_constant_at_top_only}
use Rattle.ec_folding.proofs.JoinTruth.{true_in-disj}
use Rattle.ec_folding.proofs.JoinConstants.{is_constant_at_top_only-join}
use Rattle.ec_prop.specs.Prop.{trees_of}
use Rattle.ec_prop.proofs.join.disj.Goals as goal

pub returns-clause-truth : goal.returns-clause-truth
returns-clause-truth c = λ v. ap (true_in v) c.in_ok-prop.ensures ∙ true_in-disj v (trees_of c.args.parts.items)

pub returns-clause-constants : goal.returns-clause-constants
returns-clause-constants c = λ h. ap is_constant_at_top_only c.in_ok-prop.ensures ∙ is_constant_at_top_only-join false (trees_of c.args.parts.items) h
