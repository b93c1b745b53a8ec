use Rattle.std.proofs.Common.{w64, rules}
use Rattle.std.specs.Prelude.{FitsSigned}
use Rattle.std.proofs.lemmas.Int.{to_z-of_z}
use Rattle.ec_walk.proofs.MeasureLemmas.{product_fits}
use Rattle.ec_walk.proofs.measure.product.Goals as goal

pub overflow_mul-result : goal.overflow_mul-result
overflow_mul-result c =
    let a : FitsSigned w64 c.args.left = search rules in
    let b : FitsSigned w64 c.args.right = search rules in
    simp to_z-of_z (product_fits c.args.left c.args.right c.requires)
