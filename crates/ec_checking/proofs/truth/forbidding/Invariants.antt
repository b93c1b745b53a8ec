use Rattle.std.proofs.Common.{◌≡◌, ◌+◌, ◌++◌, drop}
use Rattle.ec_certificate.specs.Accepted.{forbids, forbids_from}
use Rattle.ec_checking.proofs.truth.forbidding.Given as goal

abbrev pub invariant-loop-place : goal.invariant-loop-place
invariant-loop-place l = l.lits.items ++ forbids_from (l.place + 1) (drop l.place l.truth) ≡ forbids l.truth
