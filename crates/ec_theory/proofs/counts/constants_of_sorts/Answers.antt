use Rattle.std.proofs.Common.{arith}
use Rattle.std.proofs.lemmas.List.{length-map}
use Rattle.ec_theory.specs.Rows.{signature_of, constant_of}
use Rattle.ec_theory.proofs.CountLemmas.{counts_more, counts_few}
use Rattle.ec_theory.proofs.counts.constants_of_sorts.Goals as goal

pub count_upwards-requires-clause-valid : goal.count_upwards-requires-clause-valid
count_upwards-requires-clause-valid c = c.requires

pub count_upwards-requires-clause-each_sort : goal.count_upwards-requires-clause-each_sort
count_upwards-requires-clause-each_sort c = c.loop-constant.invariant.each_sort

pub count_upwards-requires-clause-few : goal.count_upwards-requires-clause-few
count_upwards-requires-clause-few c = λ s l.
    let few = counts_few (signature_of c.args.rows.now) c.loop-constant.constant c.loop-constant.counts.items c.loop-constant.invariant s l in
    omega (arith, few, c.loop-constant-test.true, c.len-constant-end.ensures, c.requires.listable.constants, length-map c.args.rows.now.constants.items constant_of)

pub loop-constant-preserved : goal.loop-constant-preserved
loop-constant-preserved c = counts_more (signature_of c.args.rows.now) c.loop-constant.constant c.sort_of_constant.result c.loop-constant.counts.items c.count_upwards.new.counts.items c.loop-constant.invariant c.sort_of_constant.ensures c.count_upwards.ensures.each_sort c.count_upwards.ensures.counted
