use Rattle.ec_narr.proofs.TimeLemmas.{time_low}
use Rattle.ec_narr.proofs.places.fluent_slot.Goals as goal

pub time_before-requires : goal.time_before-requires
time_before-requires c = time_low c.args.signature.now c.requires.valid c.args.time.0 c.requires.time
