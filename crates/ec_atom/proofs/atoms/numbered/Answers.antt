use Rattle.ec_logic.proofs.Counted.{countable}
use Rattle.ec_logic.proofs.FewAtoms.{few_atoms, few_events, few_fluents}
use Rattle.ec_atom.proofs.CallLemmas.{few_in_order}
use Rattle.ec_atom.proofs.atoms.numbered.Goals as goal

pub tables_of-requires : goal.tables_of-requires
tables_of-requires c = record {
  events = few_events c.args.signature.now c.predicates-count.ensures.valid c.requires;
  fluents = few_fluents c.args.signature.now c.predicates-count.ensures.valid c.requires;
}

pub blocks_of-requires : goal.blocks_of-requires
blocks_of-requires c = (countable c.args.signature.now c.predicates-count.ensures.valid c.requires).events

pub blocks_of-requires-2 : goal.blocks_of-requires-2
blocks_of-requires-2 c = (countable c.args.signature.now c.predicates-count.ensures.valid c.requires).fluents

pub blocks_of-requires-3 : goal.blocks_of-requires-3
blocks_of-requires-3 c = few_in_order c.args.signature.now c.predicates-count.ensures.valid (few_atoms c.args.signature.now c.predicates-count.ensures.valid c.requires)

pub invariant_of-result : goal.invariant_of-result
invariant_of-result c = rw c.in_ok-copy.ensures (record {
  valid = c.predicates-count.ensures.valid;
  tables_are = c.in_ok-tables.ensures;
  few = c.requires;
  events_are = c.in_ok-events.ensures;
  fluents_are = c.in_ok-fluents.ensures;
  predicates_are = c.in_ok-predicates.ensures;
})
