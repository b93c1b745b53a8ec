use Rattle.std.proofs.Common.{arith}
use Rattle.std.proofs.lemmas.Option.{slice_get_within}
use Rattle.ec_ground.proofs.Nesting.{release_nested}
use Rattle.ec_ground.proofs.room.deepest_nesting.Goals as goal

pub returns-clause-release : goal.returns-clause-release
returns-clause-release c =
    let signature = c.args.signature.now in
    release_nested signature c.loop-fluent.deepest (λ k row found. c.loop-fluent.invariant.release k row (omega (arith, slice_get_within signature.fluents k row found, c.loop-fluent-test.false, c.fluents-fluent-end.ensures.count)) found)
