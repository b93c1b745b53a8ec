use Rattle.ec_unit.proofs.Places.{true_answer}
use Rattle.ec_unit.proofs.seen.true_at.Goals as goal

pub returns-clause-some : goal.returns-clause-some
returns-clause-some c = true_answer c.args.trail.now.entries c.args.lit c.place_of.result c.place_of.ensures.within c.place_of.ensures.there
