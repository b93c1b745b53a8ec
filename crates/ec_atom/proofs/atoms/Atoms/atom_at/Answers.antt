use Rattle.std.proofs.Common.{length, ap, ◌∙◌, arith}
use Rattle.ec_logic.specs.Signature.{Signature}
use Rattle.ec_logic.proofs.AtomOrder.{predicate_at}
use Rattle.ec_atom.proofs.CallLemmas.{moved, tables_sound, predicates_here, atoms_few, atoms_here, place_low, atom_known, atom_number, atom_within, atom_stands}
use Rattle.ec_atom.proofs.atoms.Atoms.atom_at.Goals as goal

pub application_at-requires-clause-tables : goal.application_at-requires-clause-tables
application_at-requires-clause-tables c =
    let i = c.self.inside in
    rw c.deref.ensures.value (tables_sound c.args.self.now i.tables.items i.events i.fluents i.predicates (moved i.signature c.args.self.now i.tables.items i.events i.fluents i.predicates c.self.view_is c.self.invariant))

pub application_at-requires-clause-blocks : goal.application_at-requires-clause-blocks
application_at-requires-clause-blocks c =
    let i = c.self.inside in
    rw c.deref.ensures.value (predicates_here c.args.self.now i.tables.items i.events i.fluents i.predicates (moved i.signature c.args.self.now i.tables.items i.events i.fluents i.predicates c.self.view_is c.self.invariant))

pub application_at-requires-clause-symbols : goal.application_at-requires-clause-symbols
application_at-requires-clause-symbols c =
    let i = c.self.inside in
    atoms_few c.args.self.now i.tables.items i.events i.fluents i.predicates (moved i.signature c.args.self.now i.tables.items i.events i.fluents i.predicates c.self.view_is c.self.invariant)

pub application_at-requires-clause-within : goal.application_at-requires-clause-within
application_at-requires-clause-within c =
    let i = c.self.inside in
    rw c.deref.ensures.value (atoms_here c.args.self.now i.tables.items i.events i.fluents i.predicates (moved i.signature c.args.self.now i.tables.items i.events i.fluents i.predicates c.self.view_is c.self.invariant) c.args.index c.requires)

pub predicate_at-requires-clause-within : goal.predicate_at-requires-clause-within
predicate_at-requires-clause-within c =
    let i = c.self.inside in
    let count = c.predicates.ensures.count ∙ ap (λ (s : Signature). length s.predicates) c.self.view_is in
    let low = place_low c.args.self.now i.tables.items i.events i.fluents i.predicates (moved i.signature c.args.self.now i.tables.items i.events i.fluents i.predicates c.self.view_is c.self.invariant) c.in_ok-term.term.symbol c.in_ok-term.ensures.known in
    omega (arith, count, low)

pub returns-clause-atom : goal.returns-clause-atom
returns-clause-atom c =
    let i = c.self.inside in
    atom_stands c.args.self.now i.tables.items i.events i.fluents i.predicates (moved i.signature c.args.self.now i.tables.items i.events i.fluents i.predicates c.self.view_is c.self.invariant) c.predicate_at.result c.in_ok-term.term.symbol c.args.index c.in_ok-term.term.args.items c.in_ok-term.ensures.known (c.predicate_at.ensures.predicate ∙ ap (λ n. predicate_at n c.in_ok-term.term.symbol) (c.predicates.ensures.count ∙ ap (λ (s : Signature). length s.predicates) c.self.view_is)) (rw c.deref.ensures.value at c.in_ok-term.ensures.number)

pub returns-clause-number : goal.returns-clause-number
returns-clause-number c =
    let i = c.self.inside in
    atom_number c.args.self.now i.tables.items i.events i.fluents i.predicates (moved i.signature c.args.self.now i.tables.items i.events i.fluents i.predicates c.self.view_is c.self.invariant) c.predicate_at.result c.in_ok-term.term.symbol c.args.index c.in_ok-term.term.args.items c.in_ok-term.ensures.known (c.predicate_at.ensures.predicate ∙ ap (λ n. predicate_at n c.in_ok-term.term.symbol) (c.predicates.ensures.count ∙ ap (λ (s : Signature). length s.predicates) c.self.view_is)) (rw c.deref.ensures.value at c.in_ok-term.ensures.number)

pub returns-clause-known : goal.returns-clause-known
returns-clause-known c =
    let i = c.self.inside in
    atom_known c.args.self.now i.tables.items i.events i.fluents i.predicates (moved i.signature c.args.self.now i.tables.items i.events i.fluents i.predicates c.self.view_is c.self.invariant) c.predicate_at.result c.in_ok-term.term.symbol c.args.index c.in_ok-term.term.args.items c.in_ok-term.ensures.known (c.predicate_at.ensures.predicate ∙ ap (λ n. predicate_at n c.in_ok-term.term.symbol) (c.predicates.ensures.count ∙ ap (λ (s : Signature). length s.predicates) c.self.view_is)) (rw c.deref.ensures.value at c.in_ok-term.ensures.number)

pub returns-clause-within : goal.returns-clause-within
returns-clause-within c =
    let i = c.self.inside in
    atom_within c.args.self.now i.tables.items i.events i.fluents i.predicates (moved i.signature c.args.self.now i.tables.items i.events i.fluents i.predicates c.self.view_is c.self.invariant) c.predicate_at.result c.in_ok-term.term.symbol c.args.index c.in_ok-term.term.args.items c.in_ok-term.ensures.known (c.predicate_at.ensures.predicate ∙ ap (λ n. predicate_at n c.in_ok-term.term.symbol) (c.predicates.ensures.count ∙ ap (λ (s : Signature). length s.predicates) c.self.view_is)) (rw c.deref.ensures.value at c.in_ok-term.ensures.number)
