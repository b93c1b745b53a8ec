use Rattle.ec_complete.proofs.BoundLemmas.{plain_bounds, event_bounds, fluent_bounds}
use Rattle.ec_complete.proofs.bounds.bounds_of_known.Goals as goal

pub returns-in-Plain : goal.returns-in-Plain
returns-in-Plain c = plain_bounds c.args.signature.now c.args.sort c.in-Plain.ensures.kind

pub returns-in-Event : goal.returns-in-Event
returns-in-Event c = event_bounds c.args.signature.now c.args.sort c.in-Event.ensures.kind

pub returns-in-Fluent : goal.returns-in-Fluent
returns-in-Fluent c = fluent_bounds c.args.signature.now c.args.sort c.in-Fluent.ensures.kind
