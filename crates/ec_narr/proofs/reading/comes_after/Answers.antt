use Rattle.ec_narr.proofs.NextLemmas.{compared}
use Rattle.ec_narr.proofs.reading.comes_after.Goals as goal

pub returns-in-Some : goal.returns-in-Some
returns-in-Some c = compared c.args.models.now c.in-Some.earlier.now c.args.truth.now c.lt.result c.in-Some.ensures.value c.requires c.lt.ensures
