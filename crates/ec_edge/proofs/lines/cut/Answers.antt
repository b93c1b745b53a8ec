use Rattle.ec_edge.proofs.Cuts.{cut_at-is, cut_whole}
use Rattle.ec_edge.proofs.lines.cut.Goals as goal

pub returns-clause-exact : goal.returns-clause-exact
returns-clause-exact c = cut_at-is c.args.byte c.args.text.now c.split_once_str.result c.split_once_str.ensures

pub returns-clause-whole : goal.returns-clause-whole
returns-clause-whole c = cut_whole c.args.byte c.args.text.now c.split_once_str.result c.split_once_str.ensures
