use Rattle.std.proofs.Common.{ap}
use Rattle.ec_prop.specs.Prop.{tree_of, trees_of}
use Rattle.ec_prop.specs.Grounded.{definitions_of}
use Rattle.prop_tables.proofs.Samples.{sampled}
use Rattle.prop_tables.proofs.encodings.theory.Goals as goal

pub returns : goal.returns
returns c = sampled _ (tree_of c.args.sentence) c.requires (ap trees_of c.in_ok-sentences.ensures.items) (ap definitions_of c.new-definitions.ensures.items) c.in_ok-variables.ensures.items
