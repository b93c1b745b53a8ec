use Rattle.ec_logic.specs.Extent.{size_of}
use Rattle.ec_logic.specs.Signature.{fluent_sort}
use Rattle.ec_logic.specs.Universe.{universe_of, extent_at}
use Rattle.ec_atom.proofs.CallLemmas.{moved, fluents_count, tables_sound, fluents_here, term_known, term_within, term_place, counted_place}
use Rattle.ec_atom.proofs.atoms.Atoms.place_of_fluent.Goals as goal

pub number_of-requires-clause-tables : goal.number_of-requires-clause-tables
number_of-requires-clause-tables c =
    let i = c.self.inside in
    rw c.deref.ensures.value (tables_sound c.args.self.now i.tables.items i.events i.fluents i.predicates (moved i.signature c.args.self.now i.tables.items i.events i.fluents i.predicates c.self.view_is c.self.invariant))

pub number_of-requires-clause-blocks : goal.number_of-requires-clause-blocks
number_of-requires-clause-blocks c =
    let i = c.self.inside in
    rw c.deref.ensures.value (fluents_here c.args.self.now i.tables.items i.events i.fluents i.predicates (moved i.signature c.args.self.now i.tables.items i.events i.fluents i.predicates c.self.view_is c.self.invariant))

pub number_of-requires-clause-known : goal.number_of-requires-clause-known
number_of-requires-clause-known c =
    let i = c.self.inside in
    term_known c.args.self.now i.tables.items i.events i.fluents i.predicates (moved i.signature c.args.self.now i.tables.items i.events i.fluents i.predicates c.self.view_is c.self.invariant) i.fluents c.args.self.now.fluents (size_of (extent_at (universe_of c.args.self.now) fluent_sort)) (moved i.signature c.args.self.now i.tables.items i.events i.fluents i.predicates c.self.view_is c.self.invariant).fluents_are (fluents_count c.args.self.now (moved i.signature c.args.self.now i.tables.items i.events i.fluents i.predicates c.self.view_is c.self.invariant).valid) c.args.symbol c.requires.known

pub number_of-requires-clause-within : goal.number_of-requires-clause-within
number_of-requires-clause-within c =
    let i = c.self.inside in
    rw c.deref.ensures.value (term_within c.args.self.now i.tables.items i.events i.fluents i.predicates (moved i.signature c.args.self.now i.tables.items i.events i.fluents i.predicates c.self.view_is c.self.invariant) i.fluents c.args.self.now.fluents (size_of (extent_at (universe_of c.args.self.now) fluent_sort)) (moved i.signature c.args.self.now i.tables.items i.events i.fluents i.predicates c.self.view_is c.self.invariant).fluents_are (fluents_count c.args.self.now (moved i.signature c.args.self.now i.tables.items i.events i.fluents i.predicates c.self.view_is c.self.invariant).valid) c.args.symbol c.args.args.now c.requires.within)

pub returns-clause-place : goal.returns-clause-place
returns-clause-place c =
    let i = c.self.inside in
    term_place c.args.self.now i.tables.items i.events i.fluents i.predicates (moved i.signature c.args.self.now i.tables.items i.events i.fluents i.predicates c.self.view_is c.self.invariant) i.fluents c.args.self.now.fluents (size_of (extent_at (universe_of c.args.self.now) fluent_sort)) (moved i.signature c.args.self.now i.tables.items i.events i.fluents i.predicates c.self.view_is c.self.invariant).fluents_are (fluents_count c.args.self.now (moved i.signature c.args.self.now i.tables.items i.events i.fluents i.predicates c.self.view_is c.self.invariant).valid) c.args.symbol c.number_of.result c.args.args.now (rw c.deref.ensures.value at c.number_of.ensures.number)

pub returns-clause-below : goal.returns-clause-below
returns-clause-below c =
    let i = c.self.inside in
    counted_place c.args.self.now i.tables.items i.events i.fluents i.predicates (moved i.signature c.args.self.now i.tables.items i.events i.fluents i.predicates c.self.view_is c.self.invariant) i.fluents c.args.self.now.fluents (size_of (extent_at (universe_of c.args.self.now) fluent_sort)) (moved i.signature c.args.self.now i.tables.items i.events i.fluents i.predicates c.self.view_is c.self.invariant).fluents_are (fluents_count c.args.self.now (moved i.signature c.args.self.now i.tables.items i.events i.fluents i.predicates c.self.view_is c.self.invariant).valid) c.number_of.result (rw c.deref.ensures.value at c.number_of.ensures.below)
