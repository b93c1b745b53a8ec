use Rattle.std.proofs.Common.{arith}
use Rattle.ec_complete.proofs.BoundLemmas.{no_sort}
use Rattle.ec_complete.proofs.bounds.bounds.Goals as goal

pub returns-else-sort-sorts : goal.returns-else-sort-sorts
returns-else-sort-sorts c = no_sort c.args.signature.now c.args.sort (omega (arith, c.sorts.ensures.count, c.if-sort-sorts.false))
