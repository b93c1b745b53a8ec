use Rattle.indexmap.specs.IndexMap.{get}
use Rattle.ec_checking.specs.Left.{same_bytes}
use Rattle.ec_checking.proofs.LeftLemmas.{AreFirst}
use Rattle.ec_checking.proofs.left.Left.new.Given as goal

abbrev pub invariant-loop-place : goal.invariant-loop-place
invariant-loop-place l = AreFirst l.truths l.place (λ digits. get same_bytes l.places digits)
