use Rattle.std.proofs.Common.{length, ap, ◌∙◌}
use Rattle.ec_logic.specs.Signature.{Signature}
use Rattle.ec_logic.proofs.AtomOrder.{place_in_order}
use Rattle.ec_atom.proofs.CallLemmas.{moved, tables_sound, predicates_here, index_known, index_within, index_number, stands_there, stands_below}
use Rattle.ec_atom.proofs.atoms.Atoms.index_of.Goals as goal

pub number_of-requires-clause-tables : goal.number_of-requires-clause-tables
number_of-requires-clause-tables c =
    let i = c.self.inside in
    rw c.deref.ensures.value (tables_sound c.args.self.now i.tables.items i.events i.fluents i.predicates (moved i.signature c.args.self.now i.tables.items i.events i.fluents i.predicates c.self.view_is c.self.invariant))

pub number_of-requires-clause-blocks : goal.number_of-requires-clause-blocks
number_of-requires-clause-blocks c =
    let i = c.self.inside in
    rw c.deref.ensures.value (predicates_here c.args.self.now i.tables.items i.events i.fluents i.predicates (moved i.signature c.args.self.now i.tables.items i.events i.fluents i.predicates c.self.view_is c.self.invariant))

pub number_of-requires-clause-known : goal.number_of-requires-clause-known
number_of-requires-clause-known c =
    let i = c.self.inside in
    index_known c.args.self.now i.tables.items i.events i.fluents i.predicates (moved i.signature c.args.self.now i.tables.items i.events i.fluents i.predicates c.self.view_is c.self.invariant) c.args.predicate c.place_of-place.result c.args.args.now c.requires.known (c.place_of-place.ensures.place ∙ ap (λ n. place_in_order n c.args.predicate) (c.predicates.ensures.count ∙ ap (λ (s : Signature). length s.predicates) c.self.view_is))

pub number_of-requires-clause-within : goal.number_of-requires-clause-within
number_of-requires-clause-within c =
    let i = c.self.inside in
    rw c.deref.ensures.value (index_within c.args.self.now i.tables.items i.events i.fluents i.predicates (moved i.signature c.args.self.now i.tables.items i.events i.fluents i.predicates c.self.view_is c.self.invariant) c.args.predicate c.place_of-place.result c.args.args.now c.requires.known (c.place_of-place.ensures.place ∙ ap (λ n. place_in_order n c.args.predicate) (c.predicates.ensures.count ∙ ap (λ (s : Signature). length s.predicates) c.self.view_is)) c.requires.within)

pub returns-clause-number : goal.returns-clause-number
returns-clause-number c =
    let i = c.self.inside in
    index_number c.args.self.now i.tables.items i.events i.fluents i.predicates (moved i.signature c.args.self.now i.tables.items i.events i.fluents i.predicates c.self.view_is c.self.invariant) c.args.predicate c.place_of-place.result c.args.args.now c.requires.known (c.place_of-place.ensures.place ∙ ap (λ n. place_in_order n c.args.predicate) (c.predicates.ensures.count ∙ ap (λ (s : Signature). length s.predicates) c.self.view_is)) c.number_of.result (rw c.deref.ensures.value at c.number_of.ensures.number)

pub returns-clause-atom : goal.returns-clause-atom
returns-clause-atom c =
    let i = c.self.inside in
    stands_there c.args.self.now i.tables.items i.events i.fluents i.predicates (moved i.signature c.args.self.now i.tables.items i.events i.fluents i.predicates c.self.view_is c.self.invariant) c.args.predicate c.number_of.result c.args.args.now c.requires.known (index_number c.args.self.now i.tables.items i.events i.fluents i.predicates (moved i.signature c.args.self.now i.tables.items i.events i.fluents i.predicates c.self.view_is c.self.invariant) c.args.predicate c.place_of-place.result c.args.args.now c.requires.known (c.place_of-place.ensures.place ∙ ap (λ n. place_in_order n c.args.predicate) (c.predicates.ensures.count ∙ ap (λ (s : Signature). length s.predicates) c.self.view_is)) c.number_of.result (rw c.deref.ensures.value at c.number_of.ensures.number))

pub returns-clause-below : goal.returns-clause-below
returns-clause-below c =
    let i = c.self.inside in
    stands_below c.args.self.now i.tables.items i.events i.fluents i.predicates (moved i.signature c.args.self.now i.tables.items i.events i.fluents i.predicates c.self.view_is c.self.invariant) c.args.predicate c.number_of.result c.args.args.now c.requires.known (index_number c.args.self.now i.tables.items i.events i.fluents i.predicates (moved i.signature c.args.self.now i.tables.items i.events i.fluents i.predicates c.self.view_is c.self.invariant) c.args.predicate c.place_of-place.result c.args.args.now c.requires.known (c.place_of-place.ensures.place ∙ ap (λ n. place_in_order n c.args.predicate) (c.predicates.ensures.count ∙ ap (λ (s : Signature). length s.predicates) c.self.view_is)) c.number_of.result (rw c.deref.ensures.value at c.number_of.ensures.number))
