use Rattle.std.proofs.Common.{arith}
use Rattle.ec_atom.proofs.BoundLemmas.{visible_few, same_visible}
use Rattle.ec_atom.proofs.CallLemmas.{moved, visible_truths}
use Rattle.ec_atom.proofs.atoms.Atoms.visible.Goals as goal

pub overflow_cast-result : goal.overflow_cast-result
overflow_cast-result c = let few = visible_few c.self.inside.signature c.self.inside.tables.items c.self.inside.events c.self.inside.fluents c.self.inside.predicates c.self.invariant in let e = c.visible_in.ensures in grind (arith, few, e)

pub returns-clause-count : goal.returns-clause-count
returns-clause-count c = same_visible c.self.inside.signature c.args.self.now c.visible_in.result c.self.view_is c.visible_in.ensures

pub returns-clause-few : goal.returns-clause-few
returns-clause-few c = rw c.visible_in.ensures (visible_few c.self.inside.signature c.self.inside.tables.items c.self.inside.events c.self.inside.fluents c.self.inside.predicates c.self.invariant)

pub returns-clause-truths : goal.returns-clause-truths
returns-clause-truths c =
    let i = c.self.inside in
    visible_truths c.args.self.now i.tables.items i.events i.fluents i.predicates (moved i.signature c.args.self.now i.tables.items i.events i.fluents i.predicates c.self.view_is c.self.invariant) c.visible_in.result (same_visible i.signature c.args.self.now c.visible_in.result c.self.view_is c.visible_in.ensures)
