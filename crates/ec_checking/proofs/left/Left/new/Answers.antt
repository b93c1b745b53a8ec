use Rattle.std.proofs.Common.{[], ap, ◌∙◌, arith}
use Rattle.std.specs.Map.{lookup}
use Rattle.ec_log.specs.Digits.{digits_of}
use Rattle.ec_checking.specs.Left.{same_bytes}
use Rattle.ec_checking.proofs.LeftLemmas.{first-none, first-more, first-left}
use Rattle.std.proofs.lemmas.List.{get_or_default}
use Rattle.ec_checking.proofs.left.Left.new.Goals as goal

pub loop-place-init : goal.loop-place-init
loop-place-init c = first-none c.args.truths.now _ (λ digits. ap (λ es. lookup (same_bytes digits) es) c.new-places.ensures.empty)

pub loop-place-preserved : goal.loop-place-preserved
loop-place-preserved c = first-more c.args.truths.now c.loop-place.place _ _ c.in_ok-digits_of.field-0 c.loop-place.invariant (c.in_ok-digits_of.ensures ∙ ap digits_of (c.index-truths-place.is ∙ get_or_default c.args.truths.now c.loop-place.place _ [] c.loop-place-test.true)) c.in_ok-insert.ensures.updates.0

pub returns : goal.returns
returns c = first-left c.args.truths.now c.loop-place.place _ c.loop-place.invariant (omega (arith, c.loop-place-test.false, c.loop-place.auto.place-end))
