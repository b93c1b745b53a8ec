use Rattle.ec_atom.proofs.BoundLemmas.{all_few, same_all}
use Rattle.ec_atom.proofs.CallLemmas.{moved, all_truths, all_structures}
use Rattle.ec_atom.proofs.atoms.Atoms.all.Goals as goal

pub returns-clause-count : goal.returns-clause-count
returns-clause-count c = same_all c.self.inside.signature c.args.self.now c.all_in.result c.self.view_is c.all_in.ensures

pub returns-clause-few : goal.returns-clause-few
returns-clause-few c = rw c.all_in.ensures (all_few c.self.inside.signature c.self.inside.tables.items c.self.inside.events c.self.inside.fluents c.self.inside.predicates c.self.invariant)

pub returns-clause-truths : goal.returns-clause-truths
returns-clause-truths c =
    let i = c.self.inside in
    all_truths c.args.self.now i.tables.items i.events i.fluents i.predicates (moved i.signature c.args.self.now i.tables.items i.events i.fluents i.predicates c.self.view_is c.self.invariant) c.all_in.result (same_all i.signature c.args.self.now c.all_in.result c.self.view_is c.all_in.ensures)

pub returns-clause-structures : goal.returns-clause-structures
returns-clause-structures c =
    let i = c.self.inside in
    all_structures c.args.self.now i.tables.items i.events i.fluents i.predicates (moved i.signature c.args.self.now i.tables.items i.events i.fluents i.predicates c.self.view_is c.self.invariant)
