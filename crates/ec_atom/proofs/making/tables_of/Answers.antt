use Rattle.std.proofs.Common.{arith}
use Rattle.std.proofs.lemmas.Grind.{common_steps}
use Rattle.ec_atom.proofs.MakingLemmas.{tables_next}
use Rattle.ec_atom.proofs.making.tables_of.Goals as goal

pub loop-sort-preserved : goal.loop-sort-preserved
loop-sort-preserved c = record {
  count = grind (arith, common_steps, c.in_ok-push.ensures.items, c.loop-sort.invariant.count);
  each = rw c.in_ok-push.ensures.items (tables_next c.args.signature.now c.loop-sort.tables.items c.in_ok-values_of.field-0 c.loop-sort.sort c.loop-sort.invariant.count c.loop-sort.invariant.each c.in_ok-values_of.ensures);
}
