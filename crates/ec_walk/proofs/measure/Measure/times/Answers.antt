use Rattle.std.proofs.Common.{w64, rules, arith}
use Rattle.std.specs.Prelude.{FitsSigned}
use Rattle.std.proofs.lemmas.Int.{to_z-of_z}
use Rattle.ec_walk.proofs.MeasureLemmas.{times_small}
use Rattle.ec_walk.proofs.measure.Measure.times.Goals as goal

pub returns-in-Some-Some-clause-small : goal.returns-in-Some-Some-clause-small
returns-in-Some-Some-clause-small c =
    let w : FitsSigned w64 c.product.result = search rules in
    let a : FitsSigned w64 c.in-Some-Some.left = search rules in
    let b : FitsSigned w64 c.in-Some-Some.right = search rules in
    let e = simp to_z-of_z at c.product.ensures in
    simp to_z-of_z (times_small c.args.self c.args.other c.in-Some-Some.left c.in-Some-Some.right c.saturating_mul-bound.result c.product.result
    c.in-Some-Some.is-0 c.in-Some-Some.is-1 c.requires.left c.requires.right (omega (arith, c.saturating_mul-bound.ensures, c.if-bound-gt-LIMIT.false)) c.if-bound-gt-LIMIT.false e)
