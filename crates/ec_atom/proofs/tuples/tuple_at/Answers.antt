use Rattle.std.proofs.Common.{refl}
use Rattle.ec_logic.specs.Universe.{tuple_at}
use Rattle.ec_atom.specs.declared.blocks.Argument.{Argument}
use Rattle.ec_atom.specs.Blocks.{universe_in, sorts_of}
use Rattle.ec_atom.proofs.StrideLemmas.{few_after, row_after, rest_below, tuple_next}
use Rattle.ec_atom.proofs.tuples.tuple_at.Goals as goal

pub loop-argument-preserved : goal.loop-argument-preserved
loop-argument-preserved c =
    let a : Argument = record { sort = 0; stride = 0 } in
    let universe = universe_in c.args.tables.now in
    let l = c.loop-argument in
    record {
      row = row_after universe c.args.row.now l.argument-index l.rest _ a c.loop-argument-test.true refl l.invariant.row l.invariant.few l.invariant.below;
      few = few_after universe c.args.row.now l.argument-index l.rest _ a c.loop-argument-test.true refl l.invariant.row l.invariant.few l.invariant.below;
      below = rest_below universe c.args.row.now l.argument-index l.rest _ a c.loop-argument-test.true refl l.invariant.row l.invariant.few l.invariant.below;
      rest = rw c.in_ok-push.ensures.items (tuple_next universe c.args.row.now l.argument-index l.rest _ a c.loop-argument-test.true refl l.invariant.row l.invariant.few l.invariant.below l.args.items c.value_in.result (tuple_at universe (sorts_of c.args.row.now) c.args.place) c.value_in.ensures l.invariant.rest);
    }
