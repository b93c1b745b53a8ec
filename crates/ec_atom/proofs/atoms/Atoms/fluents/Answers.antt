use Rattle.ec_logic.specs.Extent.{size_of}
use Rattle.ec_logic.specs.Signature.{fluent_sort}
use Rattle.ec_logic.specs.Universe.{universe_of, extent_at}
use Rattle.ec_atom.proofs.CallLemmas.{moved, fluents_count, firsts_end, count_is, count_few}
use Rattle.ec_atom.proofs.atoms.Atoms.fluents.Goals as goal

pub count_in-requires : goal.count_in-requires
count_in-requires c =
    let i = c.self.inside in
    firsts_end c.args.self.now i.tables.items i.events i.fluents i.predicates (moved i.signature c.args.self.now i.tables.items i.events i.fluents i.predicates c.self.view_is c.self.invariant) i.fluents c.args.self.now.fluents (size_of (extent_at (universe_of c.args.self.now) fluent_sort)) (moved i.signature c.args.self.now i.tables.items i.events i.fluents i.predicates c.self.view_is c.self.invariant).fluents_are (fluents_count c.args.self.now (moved i.signature c.args.self.now i.tables.items i.events i.fluents i.predicates c.self.view_is c.self.invariant).valid)

pub returns-clause-count : goal.returns-clause-count
returns-clause-count c =
    let i = c.self.inside in
    count_is c.args.self.now i.tables.items i.events i.fluents i.predicates (moved i.signature c.args.self.now i.tables.items i.events i.fluents i.predicates c.self.view_is c.self.invariant) i.fluents c.args.self.now.fluents (size_of (extent_at (universe_of c.args.self.now) fluent_sort)) (moved i.signature c.args.self.now i.tables.items i.events i.fluents i.predicates c.self.view_is c.self.invariant).fluents_are (fluents_count c.args.self.now (moved i.signature c.args.self.now i.tables.items i.events i.fluents i.predicates c.self.view_is c.self.invariant).valid) c.count_in.result c.count_in.ensures

pub returns-clause-few : goal.returns-clause-few
returns-clause-few c =
    let i = c.self.inside in
    rw (count_is c.args.self.now i.tables.items i.events i.fluents i.predicates (moved i.signature c.args.self.now i.tables.items i.events i.fluents i.predicates c.self.view_is c.self.invariant) i.fluents c.args.self.now.fluents (size_of (extent_at (universe_of c.args.self.now) fluent_sort)) (moved i.signature c.args.self.now i.tables.items i.events i.fluents i.predicates c.self.view_is c.self.invariant).fluents_are (fluents_count c.args.self.now (moved i.signature c.args.self.now i.tables.items i.events i.fluents i.predicates c.self.view_is c.self.invariant).valid) c.count_in.result c.count_in.ensures) (count_few c.args.self.now i.tables.items i.events i.fluents i.predicates (moved i.signature c.args.self.now i.tables.items i.events i.fluents i.predicates c.self.view_is c.self.invariant) i.fluents c.args.self.now.fluents (size_of (extent_at (universe_of c.args.self.now) fluent_sort)) (moved i.signature c.args.self.now i.tables.items i.events i.fluents i.predicates c.self.view_is c.self.invariant).fluents_are (fluents_count c.args.self.now (moved i.signature c.args.self.now i.tables.items i.events i.fluents i.predicates c.self.view_is c.self.invariant).valid))
