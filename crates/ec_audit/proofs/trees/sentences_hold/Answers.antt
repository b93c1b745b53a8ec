use Rattle.std.proofs.Common.{◌<◌, length, arith}
use Rattle.ec_folding.specs.Tree.{EachAtom}
use Rattle.ec_prop.specs.Prop.{tree_of}
use Rattle.ec_audit.proofs.Filling.{image_at}
use Rattle.ec_audit.proofs.trees.sentences_hold.Goals as goal

pub true_in-requires : goal.true_in-requires
true_in-requires c = image_at (EachAtom (λ a. a < length c.args.truths.now)) tree_of c.args.sentences.now c.loop-sentence.sentence-index c.sentence-item.result c.requires (omega arith) c.sentence-item.is
