use Rattle.ec_accept.proofs.Layers.{measures_unnumbered, measures_weighed}
use Rattle.ec_accept.proofs.accepting.measured.Goals as goal

pub returns-in-Ok-clause-measures : goal.returns-in-Ok-clause-measures
returns-in-Ok-clause-measures c = measures_weighed c.args.root.now c.args.theory c.in-Ok.numbered c.in-Ok.ensures.numbers c.weighed.result c.weighed.ensures.weighs

pub returns-in-Err-clause-measures : goal.returns-in-Err-clause-measures
returns-in-Err-clause-measures c = measures_unnumbered c.args.root.now c.args.theory c.in-Err.fault c.in-Err.ensures.numbers
