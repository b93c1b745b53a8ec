use Rattle.std.proofs.Common.{arith, ap, length, rules}
use Rattle.std.specs.Prelude.{FitsSigned}
use Rattle.std.specs.Int.{w64}
use Rattle.std.proofs.lemmas.Int.{to_z-of_z}
use Rattle.ec_parse.specs.Lines.{negative}
use Rattle.ec_parse.proofs.line.whole.Goals as goal

pub returns : goal.returns
returns c =
    let f : FitsSigned w64 c.negative.result = search rules in (
      simp to_z-of_z (rw (c.in-Some.ensures, c.in-Some-number-2.ensures, c.negative.ensures) negative),
      omega arith,
      omega (arith, ap length c.in-Some.ensures, ap length c.in-Some-number-2.ensures),
    )
