use Rattle.std.proofs.Common.{refl, arith, pos}
use Rattle.ec_theory.specs.declared.value.Value.{Value}
use Rattle.ec_atom.specs.declared.blocks.Argument.{Argument}
use Rattle.ec_atom.specs.Blocks.{universe_in}
use Rattle.ec_atom.proofs.StrideLemmas.{place_small, product_small, row_next, few_next, left_next}
use Rattle.ec_atom.proofs.tuples.tuple_place.Goals as goal

pub overflow_mul-place : goal.overflow_mul-place
overflow_mul-place c =
    let small = product_small (universe_in c.args.tables.now) c.args.row.now c.args.args.now c.loop-i.i c.loop-i.place _ _ _ _ c.loop-i-test.true refl refl c.loop-i.invariant.row c.requires.few c.loop-i.invariant.few c.loop-i.invariant.rest c.requires.within c.place_in.result c.place_in.ensures in
    omega (arith, small)

pub overflow_add-place : goal.overflow_add-place
overflow_add-place c =
    let small = place_small (universe_in c.args.tables.now) c.args.row.now c.args.args.now c.loop-i.i c.loop-i.place _ _ _ _ c.loop-i-test.true refl refl c.loop-i.invariant.row c.requires.few c.loop-i.invariant.few c.loop-i.invariant.rest c.requires.within c.place_in.result c.place_in.ensures in
    omega (arith, small)

pub loop-i-preserved : goal.loop-i-preserved
loop-i-preserved c =
    let a : Argument = record { sort = 0; stride = 0 } in
    let v : Value = record { 0 = pos 0 } in
    record {
      row = row_next (universe_in c.args.tables.now) c.args.row.now c.args.args.now c.loop-i.i c.loop-i.place _ a _ v c.loop-i-test.true refl refl c.loop-i.invariant.row c.requires.few c.loop-i.invariant.few c.loop-i.invariant.rest c.requires.within;
      few = few_next (universe_in c.args.tables.now) c.args.row.now c.args.args.now c.loop-i.i c.loop-i.place _ a _ v c.loop-i-test.true refl refl c.loop-i.invariant.row c.requires.few c.loop-i.invariant.few c.loop-i.invariant.rest c.requires.within;
      rest = left_next (universe_in c.args.tables.now) c.args.row.now c.args.args.now c.loop-i.i c.loop-i.place _ a _ v c.loop-i-test.true refl refl c.loop-i.invariant.row c.requires.few c.loop-i.invariant.few c.loop-i.invariant.rest c.requires.within c.place_in.result c.place_in.ensures;
    }
