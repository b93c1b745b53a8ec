use Rattle.ec_atom.proofs.BoundLemmas.{first_few, same_first}
use Rattle.ec_atom.proofs.atoms.Atoms.first_of.Goals as goal

pub returns-clause-first : goal.returns-clause-first
returns-clause-first c = same_first c.self.inside.signature c.args.self.now c.args.predicate c.first_in.result c.self.view_is c.first_in.ensures

pub returns-clause-few : goal.returns-clause-few
returns-clause-few c = rw c.first_in.ensures (first_few c.self.inside.signature c.self.inside.tables.items c.self.inside.events c.self.inside.fluents c.self.inside.predicates c.self.invariant c.args.predicate (rw (← c.self.view_is) at c.requires))
