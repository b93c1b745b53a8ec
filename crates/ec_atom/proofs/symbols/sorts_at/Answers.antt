use Rattle.ec_logic.proofs.Extents.{arguments_length}
use Rattle.ec_atom.proofs.SymbolLemmas.{row_at}
use Rattle.ec_atom.proofs.symbols.sorts_at.Goals as goal

pub event_sorts-requires : goal.event_sorts-requires
event_sorts-requires c = rw (arguments_length c.args.signature.now.events) at (rw c.in-Events.is at c.requires)

pub fluent_sorts-requires : goal.fluent_sorts-requires
fluent_sorts-requires c = rw (arguments_length c.args.signature.now.fluents) at (rw c.in-Fluents.is at c.requires)

pub returns-in-Events : goal.returns-in-Events
returns-in-Events c = rw c.in-Events.is (row_at c.args.signature.now.events c.args.place c.event_sorts.result.now c.event_sorts.ensures.sorts)

pub returns-in-Fluents : goal.returns-in-Fluents
returns-in-Fluents c = rw c.in-Fluents.is (row_at c.args.signature.now.fluents c.args.place c.fluent_sorts.result.now c.fluent_sorts.ensures.sorts)
