use Rattle.ec_atom.proofs.MakingLemmas.{plain_extent, integer_extent, event_extent, fluent_extent}
use Rattle.ec_atom.proofs.making.values_of.Goals as goal

pub values_of_range-requires-clause-size : goal.values_of_range-requires-clause-size
values_of_range-requires-clause-size c =
    let kind = rw c.in-Integer.is at c.kind.ensures.kind in
    rw (integer_extent c.args.signature.now c.args.sort c.requires.known c.range.result kind c.range.ensures.range) at c.size_of-size.ensures

pub values_of_places-requires : goal.values_of_places-requires
values_of_places-requires c = (event_extent c.args.signature.now c.args.sort c.requires.known c.kind.ensures.valid c.size_of-size.result (rw c.in-Event.is at c.kind.ensures.kind) c.size_of-size.ensures c.requires.events).1

pub values_of_places-requires-in-Fluent : goal.values_of_places-requires-in-Fluent
values_of_places-requires-in-Fluent c = (fluent_extent c.args.signature.now c.args.sort c.requires.known c.kind.ensures.valid c.size_of-size.result (rw c.in-Fluent.is at c.kind.ensures.kind) c.size_of-size.ensures c.requires.fluents).1

pub returns-in-Plain : goal.returns-in-Plain
returns-in-Plain c = rw (plain_extent c.args.signature.now c.args.sort c.requires.known (rw c.in-Plain.is at c.kind.ensures.kind)) c.values_of_constants.ensures

pub returns-in-Integer : goal.returns-in-Integer
returns-in-Integer c = rw (integer_extent c.args.signature.now c.args.sort c.requires.known c.range.result (rw c.in-Integer.is at c.kind.ensures.kind) c.range.ensures.range) c.values_of_range.ensures

pub returns-in-Event : goal.returns-in-Event
returns-in-Event c = rw (event_extent c.args.signature.now c.args.sort c.requires.known c.kind.ensures.valid c.size_of-size.result (rw c.in-Event.is at c.kind.ensures.kind) c.size_of-size.ensures c.requires.events).0 c.values_of_places.ensures

pub returns-in-Fluent : goal.returns-in-Fluent
returns-in-Fluent c = rw (fluent_extent c.args.signature.now c.args.sort c.requires.known c.kind.ensures.valid c.size_of-size.result (rw c.in-Fluent.is at c.kind.ensures.kind) c.size_of-size.ensures c.requires.fluents).0 c.values_of_places-in-Fluent.ensures
