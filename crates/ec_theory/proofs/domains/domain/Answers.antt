use Rattle.ec_theory.proofs.DomainLemmas.{domain_event, domain_fluent}
use Rattle.ec_theory.proofs.domains.domain.Goals as goal

pub returns-in-Event : goal.returns-in-Event
returns-in-Event c = rw (domain_event c.args.signature.now c.args.sort c.size_of.result (rw c.in-Event.is at c.kind.ensures.kind) c.size_of.ensures c.requires.small) c.places_below.ensures

pub returns-in-Fluent : goal.returns-in-Fluent
returns-in-Fluent c = rw (domain_fluent c.args.signature.now c.args.sort c.size_of-in-Fluent.result (rw c.in-Fluent.is at c.kind.ensures.kind) c.size_of-in-Fluent.ensures c.requires.small) c.places_below-in-Fluent.ensures
