use Rattle.std.proofs.Common.{length, arith}
use Rattle.ec_prop.specs.Grounded.{definition_of}
use Rattle.ec_audit.specs.Fillable.{IsWithin}
use Rattle.ec_audit.proofs.Filling.{image_at}
use Rattle.ec_audit.proofs.trees.definitions_hold.Goals as goal

pub is_kept-requires : goal.is_kept-requires
is_kept-requires c = image_at (IsWithin (length c.args.truths.now)) definition_of c.args.definitions.now c.loop-definition.definition-index c.definition-item.result c.requires (omega arith) c.definition-item.is
