use Rattle.ec_theory.specs.Rows.{sort_of}
use Rattle.ec_theory.proofs.sizes.range_at.Goals as goal

pub returns-in-Some-clause-small : goal.returns-in-Some-clause-small
returns-in-Some-clause-small c = c.requires.ranges c.args.sort (sort_of c.in-Some.row.now) c.in-Some.ensures.found
