use Rattle.std.proofs.Common.{refl, rules}
use Rattle.std.specs.Prelude.{FitsSigned}
use Rattle.std.specs.Int.{w64}
use Rattle.std.proofs.lemmas.Int.{to_z-of_z}
use Rattle.std.proofs.lemmas.Result.{err_from_is_err_and}
use Rattle.ec_parse.specs.Lines.{range}
use Rattle.ec_parse.proofs.LineSteps as steps
use Rattle.ec_parse.proofs.line.range.Goals as goal

pub returns-in_err-high : goal.returns-in_err-high
returns-in_err-high c = λ u.
    let p = err_from_is_err_and c.from_residual-in_err-high.result c.from_residual-in_err-high.ensures.1 in
    rw (p.1, p.2, c.in-Some.ensures) (steps.high_fails _ _ _ _ _ c.in_ok-low.ensures.0 c.in_err-high.ensures)

pub returns-then-not-ends : goal.returns-then-not-ends
returns-then-not-ends c = λ u x d. steps.no_range_end c.in_ok-low.ensures.0 c.in_ok-high.ensures.0 (c.if-not-ends.ensures.more refl) (rw c.in-Some.ensures at d)

pub returns : goal.returns
returns c =
    let f : FitsSigned w64 c.in_ok-low.low = search rules in
    let g : FitsSigned w64 c.in_ok-high.high = search rules in
    λ u. rw (c.ranged.ensures, c.in_ok-copied.ensures, c.in-Some.ensures) (simp to_z-of_z (range c.in_ok-low.ensures.0 (rw (c.if-not-ends.ensures.end refl) at c.in_ok-high.ensures.0)))
