use Rattle.std.proofs.Common.{length}
use Rattle.ec_engine.specs.declared.listing.ListEnd.TheVariants as end
use Rattle.ec_engine.proofs.Endings.{by_unit, list_ends}
use Rattle.ec_engine.proofs.listing.list_truths.Goals as goal

pub returns-clause-put : goal.returns-clause-put
returns-clause-put g c = λ held file due.
    rw c.listed.ensures (list_ends held file _ _ _ _ (λ (_ : Unit {0}). end.Complete (length c.args.truths.now)) tt c.put_list-put.result due (by_unit c.put_list-put.result) c.put_list-put.ensures.ok c.put_list-put.ensures.part)
