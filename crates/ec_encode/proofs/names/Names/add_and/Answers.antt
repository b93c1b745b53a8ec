use Rattle.std.proofs.Common.{◌∙◌}
use Rattle.ec_naming.proofs.Adding.{range_long}
use Rattle.ec_encode.proofs.names.Names.add_and.Goals as goal

pub push-requires-clause-range : goal.push-requires-clause-range
push-requires-clause-range c =
    range_long _ _ c.args.lit c.args.parts.now c.deref.result.now c.add_downs.ensures.variables (c.deref.ensures.value ∙ c.in_ok-long_opposite.ensures) c.requires.lit c.requires.range
