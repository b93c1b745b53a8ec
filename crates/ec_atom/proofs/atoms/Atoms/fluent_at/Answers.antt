use Rattle.ec_logic.specs.Extent.{size_of}
use Rattle.ec_logic.specs.Signature.{fluent_sort}
use Rattle.ec_logic.specs.Universe.{universe_of, extent_at}
use Rattle.ec_atom.specs.Blocks.{application}
use Rattle.ec_atom.proofs.CallLemmas.{moved, fluents_count, tables_sound, fluents_here, terms_few, place_counted, symbol_known, term_place, within_again, term_is, if_ok_map}
use Rattle.ec_atom.proofs.atoms.Atoms.fluent_at.Goals as goal

pub application_at-requires-clause-tables : goal.application_at-requires-clause-tables
application_at-requires-clause-tables c =
    let i = c.self.inside in
    rw c.deref.ensures.value (tables_sound c.args.self.now i.tables.items i.events i.fluents i.predicates (moved i.signature c.args.self.now i.tables.items i.events i.fluents i.predicates c.self.view_is c.self.invariant))

pub application_at-requires-clause-blocks : goal.application_at-requires-clause-blocks
application_at-requires-clause-blocks c =
    let i = c.self.inside in
    rw c.deref.ensures.value (fluents_here c.args.self.now i.tables.items i.events i.fluents i.predicates (moved i.signature c.args.self.now i.tables.items i.events i.fluents i.predicates c.self.view_is c.self.invariant))

pub application_at-requires-clause-symbols : goal.application_at-requires-clause-symbols
application_at-requires-clause-symbols c =
    let i = c.self.inside in
    terms_few c.args.self.now i.tables.items i.events i.fluents i.predicates (moved i.signature c.args.self.now i.tables.items i.events i.fluents i.predicates c.self.view_is c.self.invariant) i.fluents c.args.self.now.fluents (size_of (extent_at (universe_of c.args.self.now) fluent_sort)) (moved i.signature c.args.self.now i.tables.items i.events i.fluents i.predicates c.self.view_is c.self.invariant).fluents_are (fluents_count c.args.self.now (moved i.signature c.args.self.now i.tables.items i.events i.fluents i.predicates c.self.view_is c.self.invariant).valid) (moved i.signature c.args.self.now i.tables.items i.events i.fluents i.predicates c.self.view_is c.self.invariant).valid.listable.fluents

pub application_at-requires-clause-within : goal.application_at-requires-clause-within
application_at-requires-clause-within c =
    let i = c.self.inside in
    rw c.deref.ensures.value (place_counted c.args.self.now i.tables.items i.events i.fluents i.predicates (moved i.signature c.args.self.now i.tables.items i.events i.fluents i.predicates c.self.view_is c.self.invariant) i.fluents c.args.self.now.fluents (size_of (extent_at (universe_of c.args.self.now) fluent_sort)) (moved i.signature c.args.self.now i.tables.items i.events i.fluents i.predicates c.self.view_is c.self.invariant).fluents_are (fluents_count c.args.self.now (moved i.signature c.args.self.now i.tables.items i.events i.fluents i.predicates c.self.view_is c.self.invariant).valid) c.args.place c.requires)

pub returns-clause-term : goal.returns-clause-term
returns-clause-term c =
    let i = c.self.inside in
    if_ok_map c.application_at.result (rw c.deref.ensures.value at c.application_at.ensures.application) (λ term h. term_is c.args.self.now i.tables.items i.events i.fluents i.predicates (moved i.signature c.args.self.now i.tables.items i.events i.fluents i.predicates c.self.view_is c.self.invariant) i.fluents c.args.self.now.fluents (size_of (extent_at (universe_of c.args.self.now) fluent_sort)) (moved i.signature c.args.self.now i.tables.items i.events i.fluents i.predicates c.self.view_is c.self.invariant).fluents_are (fluents_count c.args.self.now (moved i.signature c.args.self.now i.tables.items i.events i.fluents i.predicates c.self.view_is c.self.invariant).valid) c.args.place (application term) h)

pub returns-clause-place : goal.returns-clause-place
returns-clause-place c =
    let i = c.self.inside in
    if_ok_map c.application_at.result (rw c.deref.ensures.value at c.application_at.ensures.number) (λ term h. term_place c.args.self.now i.tables.items i.events i.fluents i.predicates (moved i.signature c.args.self.now i.tables.items i.events i.fluents i.predicates c.self.view_is c.self.invariant) i.fluents c.args.self.now.fluents (size_of (extent_at (universe_of c.args.self.now) fluent_sort)) (moved i.signature c.args.self.now i.tables.items i.events i.fluents i.predicates c.self.view_is c.self.invariant).fluents_are (fluents_count c.args.self.now (moved i.signature c.args.self.now i.tables.items i.events i.fluents i.predicates c.self.view_is c.self.invariant).valid) term.symbol c.args.place term.args.items h)

pub returns-clause-known : goal.returns-clause-known
returns-clause-known c =
    let i = c.self.inside in
    if_ok_map c.application_at.result c.application_at.ensures.known (λ term h. symbol_known c.args.self.now i.tables.items i.events i.fluents i.predicates (moved i.signature c.args.self.now i.tables.items i.events i.fluents i.predicates c.self.view_is c.self.invariant) i.fluents c.args.self.now.fluents (size_of (extent_at (universe_of c.args.self.now) fluent_sort)) (moved i.signature c.args.self.now i.tables.items i.events i.fluents i.predicates c.self.view_is c.self.invariant).fluents_are (fluents_count c.args.self.now (moved i.signature c.args.self.now i.tables.items i.events i.fluents i.predicates c.self.view_is c.self.invariant).valid) term.symbol h)

pub returns-clause-within : goal.returns-clause-within
returns-clause-within c =
    let i = c.self.inside in
    if_ok_map c.application_at.result (rw c.deref.ensures.value at c.application_at.ensures.number) (λ term h. within_again c.args.self.now i.tables.items i.events i.fluents i.predicates (moved i.signature c.args.self.now i.tables.items i.events i.fluents i.predicates c.self.view_is c.self.invariant) i.fluents c.args.self.now.fluents (size_of (extent_at (universe_of c.args.self.now) fluent_sort)) (moved i.signature c.args.self.now i.tables.items i.events i.fluents i.predicates c.self.view_is c.self.invariant).fluents_are (fluents_count c.args.self.now (moved i.signature c.args.self.now i.tables.items i.events i.fluents i.predicates c.self.view_is c.self.invariant).valid) term.symbol c.args.place term.args.items h)
